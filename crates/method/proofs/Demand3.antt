-- Demand 3, for every number of stations, every inputs, every order of turns, stopped at every moment: the board need only be large enough.
-- The words are those of specs/Demand. `run t` is the run record after the first t turns.
use mathlib.Core.Path.{◌≡◌, ◌∙◌}
use mathlib.Core.Bool.{cond, true}
use mathlib.Core.List.{List}
use mathlib.Core.Logic.{◌⊎◌, inl, inr}
use Prim.Native.Nat.{ℕ, ◌+◌, ◌-◌, ◌^◌, ◌≤◌, ◌<◌}
use native.Mathlib.Nat.{le_trans}
use native.Mathlib.Omega.{arith}
use borrow.Author.Tests.{eq-eqb}
use lib.ListN.{length, get_or}
use lib.Pow.{pow_mono}
use Rattle.sets.specs.Mask.{bit, holds, Inside}
use Rattle.sets.proofs.Members.{holds-digit}
use Rattle.sets.proofs.Subset.{holds-inside}
use Rattle.method.specs.declared.Run.{Run}
use Rattle.method.specs.declared.Did.TheVariants.{Operation, Idle, Unwritten}
use Rattle.method.specs.Board.{levels, registers, depth, fresh_on, row_of}
use Rattle.method.specs.Turn.{after}
use Rattle.method.specs.Demand.{Fits, Station, SettledOn, input_of, gathered, times_named, is_settled, turns_unsettled, did_of, idle_turns, counts_of, most_operations, sharp_operations}
use Rattle.method.proofs.Depth.{depth-enough, depth-least}
use Rattle.method.proofs.Gathering.{gathered-holds}
use Rattle.method.proofs.Moments as M
use Rattle.method.proofs.Moments.{always-sound}
use Rattle.method.proofs.Counts as C
use Rattle.method.proofs.Agreement.{settled_on, agrees, chain, member-named}

-- "the least N such that 2^N is not below n"
pub depth-is-least : (n : ℕ) → (n ≤ 2 ^ depth n) × ((k : ℕ) → n ≤ 2 ^ k → depth n ≤ k)
depth-is-least n = (depth-enough n, depth-least n)

-- a board of 4 levels of 16 registers is large enough for 16 stations
pub fits-board : (n : ℕ) (inputs : List ℕ) → n ≤ 16 → n ≤ length inputs → Fits levels registers n inputs
fits-board n inputs h k = record { deep = depth-least n 4 h; wide = pow_mono (depth-least n 4 h); given = k }

sharper : (n : ℕ) → sharp_operations n ≤ most_operations n
unfolding sharp_operations most_operations
sharper n = omega arith

module _ {l r n : ℕ} {inputs : List ℕ} (fits : Fits l r n inputs) (turns : List ℕ) where
  abbrev start : Run
  start = fresh_on l r n inputs

  abbrev run : ℕ → Run
  run t = after (fresh_on l r n inputs) turns t

  -- 1. Of two settled sets one holds the other, whenever they settled: the stations, and in the same way the stocks.
  pub nested : (t u i j S T x y : ℕ) → Station n i → Station n j → SettledOn (run t) i S x → SettledOn (run u) j T y
      → (Inside S T × Inside x y) ⊎ (Inside T S × Inside y x)
  nested t u i j S T x y si sj p q = chain fits turns t u i j S T x y (agrees fits turns t i S x si p) (agrees fits turns u j T y sj q)

  -- 2. A settled set of stations holds its own station, and only stations that have been named by then.
  pub holds-itself : (t i S x : ℕ) → Station n i → SettledOn (run t) i S x → holds S i ≡ true
  holds-itself t i S x st q = holds-digit S i st.low ∙ eq-eqb (bit S (i - 1)) 1 (agrees fits turns t i S x st q).self

  pub members-named : (t i S x : ℕ) → Station n i → SettledOn (run t) i S x → (j : ℕ) → holds S j ≡ true → Station n j × (1 ≤ times_named turns t j)
  members-named t i S x st q = member-named fits turns t i S x (agrees fits turns t i S x st q)

  -- The settled stocks are the union of the inputs of exactly the stations in its set, so its own input is among them.
  pub stocks-gathered : (t i S x : ℕ) → Station n i → SettledOn (run t) i S x → x ≡ gathered inputs S n
  stocks-gathered t i S x st q = (agrees fits turns t i S x st q).union

  pub holds-own-stocks : (t i S x : ℕ) → Station n i → SettledOn (run t) i S x → Inside (input_of inputs i) x
  holds-own-stocks t i S x st q =
      let a = agrees fits turns t i S x st q in
      let h : i - 1 < n = omega (arith, st.low, st.high) in
      rw a.union (gathered-holds inputs S n (i - 1) h a.self)

  -- 3. A set settled before another station's first turn lies inside that station's set, if it settles.
  pub earlier-inside : (t u i j S T x y : ℕ) → Station n i → Station n j → times_named turns t j ≡ 0 → SettledOn (run t) i S x → SettledOn (run u) j T y
      → Inside S T × Inside x y
  earlier-inside t u i j S T x y si sj none p q = go (nested t u i j S T x y si sj p q)
    where
      go : (Inside S T × Inside x y) ⊎ (Inside T S × Inside y x) → Inside S T × Inside x y
      go (inl k) = k
      go (inr k) = absurd (omega (arith, (members-named t i S x si p j (holds-inside j k.0 (holds-itself u j T y sj q))).1))

  -- 4 and 7. A station that is named so often has settled, whatever the others do; and no station makes more operations.
  pub settles : (t i : ℕ) → Station n i → most_operations n ≤ times_named turns t i → (S : ℕ) × (x : ℕ) × SettledOn (run t) i S x
  settles t i st h = settled_on (row_of (run t) i).state (C.settles l r n inputs fits turns t i st (le_trans (sharper n) h))

  pub operations-bounded : (t i : ℕ) → Station n i → (row_of (run t) i).count ≤ most_operations n
  operations-bounded t i st = le_trans (C.count_most l r n inputs fits turns t i st) (sharper n)

  -- The same with the sharper number.
  pub settles-sharp : (t i : ℕ) → Station n i → sharp_operations n ≤ times_named turns t i → (S : ℕ) × (x : ℕ) × SettledOn (run t) i S x
  settles-sharp t i st h = settled_on (row_of (run t) i).state (C.settles l r n inputs fits turns t i st h)

  pub operations-sharp : (t i : ℕ) → Station n i → (row_of (run t) i).count ≤ sharp_operations n
  operations-sharp = C.count_most l r n inputs fits turns

  -- 5. A settled station stays as it is.
  pub settled-stays : (t u i S x : ℕ) → Station n i → t ≤ u → SettledOn (run t) i S x → row_of (run u) i ≡ row_of (run t) i
  settled-stays t u i S x st h q = C.settled-row l r n inputs fits turns t u i st h (rw q)

  -- A count is the number of turns that named the station before it settled, so it is no more than the turns.
  pub count-is : (t i : ℕ) → Station n i → (row_of (run t) i).count ≡ turns_unsettled start turns t i
  count-is = C.count-is l r n inputs fits turns

  pub count-within : (t i : ℕ) → Station n i → (row_of (run t) i).count ≤ t
  count-within t i st = rw (count-is t i st) (C.count-turns l r n inputs fits turns t i)

  -- A turn that names a station is idle if the station has settled, and makes an operation otherwise.
  pub turn-was : (t : ℕ) → Station n (get_or turns t 0) → did_of start turns t ≡ cond (is_settled (row_of (run t) (get_or turns t 0)).state) Idle Operation
  turn-was = C.turn-was l r n inputs fits turns

  -- Counts and idle turns add up to the turns.
  pub counts-add-up : (t : ℕ) → ((u : ℕ) → u < t → Station n (get_or turns u 0)) → counts_of (run t) n + idle_turns start turns t ≡ t
  counts-add-up = C.counts-and-idle l r n inputs fits turns

  -- 6. No turn reads a line X that was never written.
  pub never-unwritten : (t : ℕ) → did_of start turns t ≡ Unwritten → ⊥
  unfolding did_of
  never-unwritten t = M.never-unwritten l r n inputs fits turns t (always-sound l r n inputs fits turns t) (get_or turns t 0)
