-- An order of turns on a run record, up to the first turn that would read a line never written.
use Rattle.std.specs.Prelude.{ℕ, zero, suc, Bool, true, false, List, length, get_or}
use Rattle.method.specs.declared.Did.{Did}
use Rattle.method.specs.declared.Did.TheVariants.{Operation, Idle, Unwritten, Nobody}
use Rattle.method.specs.declared.Run.{Run}
use Rattle.method.specs.First.{first_from}
use Rattle.turns.specs.declared.playing.Played.{Played}
use Rattle.turns.specs.Step.{step_of}

-- the record after the first t turns
unfoldable pub stepped : Run → List ℕ → ℕ → Run
stepped run turns zero = run
stepped run turns (suc t) = (step_of (stepped run turns t) (get_or turns t 0)).run

abbrev pub is_unwritten : Did → Bool
is_unwritten Operation = false
is_unwritten Idle = false
is_unwritten Unwritten = true
is_unwritten Nobody = false

abbrev pub unwritten_step : Run → List ℕ → ℕ → Bool
unwritten_step run turns t = is_unwritten (step_of (stepped run turns t) (get_or turns t 0)).did

-- how many turns are made
unfoldable pub stops_at : Run → List ℕ → ℕ
stops_at run turns = first_from (unwritten_step run turns) 0 (length turns)

abbrev pub played_of : Run → List ℕ → Played
played_of run turns = record { run = stepped run turns (stops_at run turns); at = stops_at run turns }
