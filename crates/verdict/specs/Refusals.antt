-- The refusals of a run call: MODEL 7.
use Rattle.std.specs.Prelude.{ℕ, ◌*◌, Bool, cond, not, ◌&&◌, List, leb, ltb, eqb, length, get_or, Result, Ok, Err}
use Rattle.sets.specs.Limits.{most_turns}
use Rattle.sets.specs.Placed.{with_place}
use Rattle.method.specs.Board.{registers}
use Rattle.method.specs.First.{first_from}
use Rattle.verdict.specs.declared.Refusal.{Refusal}
use Rattle.verdict.specs.declared.Refusal.TheVariants.{BadStationCount, BadInputBytes, TooManyTurns, BadTurn, ShortAnswer, UnwrittenLine}

-- "The call returns 0; or the number of a refusal and 100 times its place"
abbrev pub number_of : Result (Unit {0}) Refusal → ℕ
number_of (Ok made) = 0
number_of (Err BadStationCount) = 1
number_of (Err BadInputBytes) = 2
number_of (Err TooManyTurns) = 3
number_of (Err (BadTurn at)) = with_place 4 at
number_of (Err ShortAnswer) = 5
number_of (Err (UnwrittenLine at)) = with_place 6 at

-- 4: "a turn is 0, or more than n": "the first such turn", counted from 0
abbrev pub is_bad : ℕ → List ℕ → ℕ → Bool
is_bad n turns t = not (leb 1 (get_or turns t 0) && leb (get_or turns t 0) n)

unfoldable pub first_bad : ℕ → List ℕ → ℕ
first_bad n turns = first_from (is_bad n turns) 0 (length turns)

-- the refusals 1 to 5, "The tests are made in this order", of a call with n stations, so many input bytes, these turns, and so many answer bytes
unfoldable pub tests : ℕ → ℕ → List ℕ → ℕ → Result (Unit {0}) Refusal
tests n input_bytes turns answer_size =
    cond (leb 1 n && leb n registers)
    (cond (eqb input_bytes (8 * n))
    (cond (leb (length turns) most_turns)
    (cond (ltb (first_bad n turns) (length turns)) (Err (BadTurn (first_bad n turns))) (cond (leb (20 * n) answer_size) (Ok tt) (Err ShortAnswer)))
    (Err TooManyTurns))
    (Err BadInputBytes))
    (Err BadStationCount)
