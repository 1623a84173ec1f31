-- The words of demand 3, MODEL 10, over the definitions of the run.
use Rattle.std.specs.Prelude.{ℕ, zero, suc, ◌+◌, ◌-◌, ◌*◌, ◌^◌, ◌≤◌, Bool, true, false, cond, not, ◌&&◌, List, ◌≡◌, eqb, length, get_or}
use Rattle.sets.specs.Mask.{union, holds}
use Rattle.method.specs.declared.State.{State}
use Rattle.method.specs.declared.State.TheVariants.{NotBegun, Uniting, Gathering, Settled}
use Rattle.method.specs.declared.Run.{Run}
use Rattle.method.specs.declared.Did.{Did}
use Rattle.method.specs.declared.Did.TheVariants.{Operation, Idle, Unwritten, Nobody}
use Rattle.method.specs.Board.{depth, row_of}
use Rattle.method.specs.Turn.{turn, after}

-- the board is large enough for n stations, and each has an input
pub record Fits (l r n : ℕ) (inputs : List ℕ) : Type 0 where
  pub deep : depth n ≤ l
  pub wide : 2 ^ depth n ≤ r
  pub given : n ≤ length inputs

-- i is one of n stations
pub record Station (n i : ℕ) : Type 0 where
  pub low : 1 ≤ i
  pub high : i ≤ n

-- station i has settled on the stations S and on these stocks
abbrev pub SettledOn : Run → ℕ → ℕ → ℕ → Type 0
SettledOn run i S stocks = (row_of run i).state ≡ Settled S stocks

-- the input of station i
abbrev pub input_of : List ℕ → ℕ → ℕ
input_of inputs i = get_or inputs (i - 1) 0

-- the union of the inputs of those of the first n stations that are in S
unfoldable pub gathered : List ℕ → ℕ → ℕ → ℕ
gathered inputs S zero = 0
gathered inputs S (suc n) = union (gathered inputs S n) (cond (holds S (suc n)) (input_of inputs (suc n)) 0)

abbrev pub one : Bool → ℕ
one true = 1
one false = 0

-- how many of the first t turns name station i
unfoldable pub times_named : List ℕ → ℕ → ℕ → ℕ
times_named turns zero i = 0
times_named turns (suc t) i = times_named turns t i + one (eqb (get_or turns t 0) i)

abbrev pub is_settled : State → Bool
is_settled (NotBegun stocks) = false
is_settled (Uniting k own other side round) = false
is_settled (Gathering S j got) = false
is_settled (Settled S got) = true

-- how many of the first t turns named station i while it had not settled
unfoldable pub turns_unsettled : Run → List ℕ → ℕ → ℕ → ℕ
turns_unsettled run turns zero i = 0
turns_unsettled run turns (suc t) i =
    turns_unsettled run turns t i + one (eqb (get_or turns t 0) i && not (is_settled (row_of (after run turns t) i).state))

abbrev pub is_idle : Did → Bool
is_idle Operation = false
is_idle Idle = true
is_idle Unwritten = false
is_idle Nobody = false

-- what turn t was, counted from 0
unfoldable pub did_of : Run → List ℕ → ℕ → Did
did_of run turns t = (turn (after run turns t) (get_or turns t 0)).did

-- how many of the first t turns were idle
unfoldable pub idle_turns : Run → List ℕ → ℕ → ℕ
idle_turns run turns zero = 0
idle_turns run turns (suc t) = idle_turns run turns t + one (is_idle (did_of run turns t))

-- the counts of the first n stations, added up
unfoldable pub counts_of : Run → ℕ → ℕ
counts_of run zero = 0
counts_of run (suc n) = counts_of run n + (row_of run (suc n)).count

-- "6(2^N - 1) + n + 1", and a sharper number, which case E meets at n = 2
unfoldable pub most_operations : ℕ → ℕ
most_operations n = 6 * (2 ^ depth n - 1) + n + 1

unfoldable pub sharp_operations : ℕ → ℕ
sharp_operations n = 6 * (2 ^ depth n - 1) - 3 * depth n + n + 1
