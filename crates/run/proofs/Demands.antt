-- The three demands, said of one run call: what the answer's twenty bytes of a station stand for, and demand 3 of those states.
use Prim.Native.Nat.{ℕ, zero, suc, ◌+◌, ◌*◌, ◌-◌, ◌≤◌, ◌<◌}
use mathlib.Core.Path.{◌≡◌, refl, ◌∙◌}
use mathlib.Core.Bool.{true}
use mathlib.Core.List.{List, [], ◌∷◌, ◌++◌, append_assoc}
use mathlib.Core.Logic.{◌⊎◌}
use native.Mathlib.Omega.{arith}
use lib.ListN.{length, get_or, take, drop}
use lib.Seq.{drop-append-add, take_at}
use Rattle.sets.specs.Mask.{holds, Inside}
use Rattle.method.specs.declared.Row.{Row}
use Rattle.method.specs.declared.Run.{Run}
use Rattle.method.specs.Board.{fresh, row_of, not_begun}
use Rattle.method.specs.Turn.{after}
use Rattle.method.specs.Demand.{Fits, Station, SettledOn, input_of, gathered, times_named, turns_unsettled, idle_turns, counts_of, most_operations}
use Rattle.method.proofs.Moments.{always-sound}
use Rattle.std.specs.Prelude.{Result, Ok, Err}
use Rattle.verdict.specs.declared.Refusal.{Refusal}
use Rattle.run.specs.Inputs.{inputs_in}
use Rattle.answer.specs.Answer.{row_bytes, answer_bytes}
use Rattle.verdict.specs.Refusals.{tests}
use Rattle.run.specs.Call.{begun, played_out, verdict_of, answered}
use Rattle.verdict.proofs.Judging.{Taken, taken, stations-named}
use Rattle.run.proofs.Little.{inputs-length}
use Rattle.answer.proofs.Laid.{row-length}
use Rattle.method.proofs.Demand3 as D

-- a call is accepted only where the tests accept it
passed : (run : Run) (turns : List ℕ) (v : Result (Unit {0}) Refusal) → played_out run turns v ≡ Ok tt → v ≡ Ok tt
passed run turns (Ok made) e = refl
passed run turns (Err refusal) e = e

-- twenty bytes from place 20(i-1) on are station i's
row-there : (e : ℕ) (n : ℕ) (rows : List Row) (rest : List ℕ) (d : Row) → e < n → e < length rows → take 20 (drop (20 * e) (answer_bytes n rows ++ rest)) ≡ row_bytes (get_or rows e d)
unfolding answer_bytes
row-there e zero rows rest d h k = absurd (omega arith)
row-there e (suc n) [] rest d h k = absurd (omega arith)
row-there zero (suc n) (r ∷ rows) rest d h k =
    let s : length (row_bytes r) ≡ 20 = row-length r in
    rw append_assoc (take_at (row_bytes r) (answer_bytes n rows ++ rest) 20 s)
row-there (suc e) (suc n) (r ∷ rows) rest d h k =
    let z : 20 * suc e ≡ length (row_bytes r) + 20 * e = omega (arith, row-length r) in
    rw (append_assoc, z, drop-append-add (row_bytes r) (answer_bytes n rows ++ rest) (20 * e)) (row-there e n rows rest d (omega arith) (omega arith))

module _ (n : ℕ) (inputs turns answer : List ℕ) (accepted : verdict_of n inputs turns answer ≡ Ok tt) where
  -- the run record when the call returns
  abbrev end : Run
  end = after (begun n inputs) turns (length turns)

  tested : tests n (length inputs) turns (length answer) ≡ Ok tt
  unfolding verdict_of
  tested = passed (begun n inputs) turns _ accepted

  t : Taken n (length inputs) turns (length answer)
  t = taken n (length inputs) turns (length answer) tested

  fits : Fits 4 16 n (inputs_in 16 inputs)
  fits = D.fits-board n (inputs_in 16 inputs) t.high (rw (inputs-length 16 inputs) t.high)

  -- demand 2: the answer is the rows of the method's run, and station i's twenty bytes are its row's
  pub call-answer : answered n inputs turns answer ≡ answer_bytes n end.rows ++ drop (20 * n) answer
  call-answer = rw accepted

  rows-there : length end.rows ≡ 16
  unfolding fresh
  rows-there = (always-sound 4 16 n (inputs_in 16 inputs) fits turns (length turns)).shape.rows ∙ inputs-length 16 inputs

  pub call-row : (i : ℕ) → Station n i → take 20 (drop (20 * (i - 1)) (answered n inputs turns answer)) ≡ row_bytes (row_of end i)
  unfolding row_of
  call-row i st =
      rw call-answer
      (row-there (i - 1) n end.rows (drop (20 * n) answer) (not_begun 0) (omega (arith, st.low, st.high)) (omega (arith, rows-there, st.low, st.high, t.high)))

  named : (u : ℕ) → u < length turns → Station n (get_or turns u 0)
  named = stations-named n turns t.good

  -- demand 3, at the end of the call: of two settled sets one holds the other
  pub call-nested : (i j S T x y : ℕ) → Station n i → Station n j → SettledOn end i S x → SettledOn end j T y
      → (Inside S T × Inside x y) ⊎ (Inside T S × Inside y x)
  unfolding fresh
  call-nested i j = D.nested fits turns (length turns) (length turns) i j

  -- each holds its own station and stocks, and only stations that were named; its stocks are those stations' inputs
  pub call-members : (i S x : ℕ) → Station n i → SettledOn end i S x → (j : ℕ) → holds S j ≡ true → Station n j × (1 ≤ times_named turns (length turns) j)
  unfolding fresh
  call-members i S x = D.members-named fits turns (length turns) i S x

  pub call-itself : (i S x : ℕ) → Station n i → SettledOn end i S x → holds S i ≡ true
  unfolding fresh
  call-itself i S x = D.holds-itself fits turns (length turns) i S x

  pub call-stocks : (i S x : ℕ) → Station n i → SettledOn end i S x → x ≡ gathered (inputs_in 16 inputs) S n
  unfolding fresh
  call-stocks i S x = D.stocks-gathered fits turns (length turns) i S x

  pub call-own-stocks : (i S x : ℕ) → Station n i → SettledOn end i S x → Inside (input_of (inputs_in 16 inputs) i) x
  unfolding fresh
  call-own-stocks i S x = D.holds-own-stocks fits turns (length turns) i S x

  -- one settled by turn u, before another station's first turn, lies inside that station's set
  pub call-earlier : (u i j S T x y : ℕ) → Station n i → Station n j → times_named turns u j ≡ 0 → SettledOn (after (begun n inputs) turns u) i S x → SettledOn end j T y
      → Inside S T × Inside x y
  unfolding fresh
  call-earlier u i j = D.earlier-inside fits turns u (length turns) i j

  -- a station that is named so often has settled, and none makes more operations
  pub call-settles : (i : ℕ) → Station n i → most_operations n ≤ times_named turns (length turns) i → (S : ℕ) × (x : ℕ) × SettledOn end i S x
  unfolding fresh
  call-settles i = D.settles fits turns (length turns) i

  pub call-bounded : (i : ℕ) → Station n i → (row_of end i).count ≤ most_operations n
  unfolding fresh
  call-bounded i = D.operations-bounded fits turns (length turns) i

  -- a count is the turns that named the station before it settled; counts and idle turns are all turns
  pub call-counts : (i : ℕ) → Station n i → (row_of end i).count ≡ turns_unsettled (begun n inputs) turns (length turns) i
  unfolding fresh
  call-counts i = D.count-is fits turns (length turns) i

  pub call-adds-up : counts_of end n + idle_turns (begun n inputs) turns (length turns) ≡ length turns
  unfolding fresh
  call-adds-up = D.counts-add-up fits turns (length turns) named
