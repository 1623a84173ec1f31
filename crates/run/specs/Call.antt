-- The run call: MODEL 7.
use Rattle.std.specs.Prelude.{ℕ, ◌*◌, Bool, cond, List, ◌++◌, ltb, length, get_or, drop, Result, Ok, Err}
use Rattle.method.specs.declared.Run.{Run}
use Rattle.method.specs.Board.{registers, fresh}
use Rattle.method.specs.Turn.{after, turn}
use Rattle.method.specs.First.{first_from}
use Rattle.verdict.specs.declared.Refusal.{Refusal}
use Rattle.verdict.specs.declared.Refusal.TheVariants.{UnwrittenLine}
use Rattle.verdict.specs.Refusals.{number_of, tests}
use Rattle.turns.specs.Playing.{is_unwritten}
use Rattle.answer.specs.Answer.{answer_bytes}
use Rattle.run.specs.Inputs.{inputs_in}

-- 6: "a turn would read a line X that was never written": the first such turn
abbrev pub reads_unwritten : Run → List ℕ → ℕ → Bool
reads_unwritten run turns t = is_unwritten (turn (after run turns t) (get_or turns t 0)).did

unfoldable pub first_unwritten : Run → List ℕ → ℕ
first_unwritten run turns = first_from (reads_unwritten run turns) 0 (length turns)

-- the run record before the first turn
abbrev pub begun : ℕ → List ℕ → Run
begun n inputs = fresh n (inputs_in registers inputs)

-- with refusal 6, which comes last
abbrev pub played_out : Run → List ℕ → Result (Unit {0}) Refusal → Result (Unit {0}) Refusal
played_out run turns (Ok made) = cond (ltb (first_unwritten run turns) (length turns)) (Err (UnwrittenLine (first_unwritten run turns))) (Ok tt)
played_out run turns (Err refusal) = Err refusal

unfoldable pub verdict_of : ℕ → List ℕ → List ℕ → List ℕ → Result (Unit {0}) Refusal
verdict_of n inputs turns answer = played_out (begun n inputs) turns (tests n (length inputs) turns (length answer))

-- a refusal: "then no answer byte is changed"; else "Answer bytes from 20n on stay as they are."
abbrev pub answer_for : ℕ → List ℕ → List ℕ → List ℕ → Result (Unit {0}) Refusal → List ℕ
answer_for n inputs turns answer (Ok made) =
    answer_bytes n (after (begun n inputs) turns (length turns)).rows ++ drop (20 * n) answer
answer_for n inputs turns answer (Err refusal) = answer

-- the number that the call returns, and the answer bytes when it has
abbrev pub returned : ℕ → List ℕ → List ℕ → List ℕ → ℕ
returned n inputs turns answer = number_of (verdict_of n inputs turns answer)

abbrev pub answered : ℕ → List ℕ → List ℕ → List ℕ → List ℕ
answered n inputs turns answer = answer_for n inputs turns answer (verdict_of n inputs turns answer)
