-- One turn on the run record.
use Rattle.std.specs.Prelude.{ℕ, cond, ltb}
use Rattle.method.specs.declared.Did.TheVariants.{Nobody}
use Rattle.method.specs.declared.Run.{Run}
use Rattle.method.specs.declared.Turned.{Turned}
use Rattle.method.specs.Board.{row_of}
use Rattle.method.specs.Turn.{turn, turned}
use Rattle.turns.specs.Moves.{count_end}

-- no turn is made for a station whose count is at its end
unfoldable pub step_of : Run → ℕ → Turned
step_of run i = cond (ltb (row_of run i).count count_end) (turn run i) (turned run Nobody)
