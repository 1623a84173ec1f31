-- The union of the inputs of the stations in a set, gathered station by station.
use mathlib.Core.Path.{◌≡◌, refl, sym, ◌∙◌}
use mathlib.Core.Bool.{cond}
use mathlib.Core.List.{List}
use mathlib.Core.Logic.{◌⊎◌, inl, inr}
use Prim.Native.Nat.{ℕ, zero, suc, ◌-◌, ◌≤◌, ◌<◌}
use native.Mathlib.Nat.{le_refl}
use native.Mathlib.Decide.{le_ind}
use native.Mathlib.Omega.{arith}
use lib.Bits.{or_zero_r}
use lib.Dec.{eqb}
use lib.ListN.{get_or}
use Rattle.sets.specs.Mask.{union, bit, holds, Inside}
use Rattle.sets.proofs.Members.{bit-cases}
use Rattle.sets.proofs.Subset.{inside-refl, inside-trans, inside-of-eq, none_inside, union_left, union_right, union-mono, member-inside}
use Rattle.method.specs.Demand.{gathered, input_of}

module _ (inputs : List ℕ) where
  -- one station more, that is in the set or is not
  pub gathered-member : (S d : ℕ) → bit S d ≡ 1 → gathered inputs S (suc d) ≡ union (gathered inputs S d) (get_or inputs d 0)
  unfolding gathered holds
  gathered-member S d h = let e : suc d - 1 ≡ d = omega arith in rw (h, e)

  gathered-other : (S d : ℕ) → bit S d ≡ 0 → gathered inputs S (suc d) ≡ gathered inputs S d
  unfolding gathered holds
  gathered-other S d h = rw h (or_zero_r (gathered inputs S d))

  -- no more comes from where the set has no member
  pub gathered-same : (S j k : ℕ) → j ≤ k → ((d : ℕ) → j ≤ d → d < k → bit S d ≡ 0) → gathered inputs S k ≡ gathered inputs S j
  gathered-same S j k l none =
      le_ind
      (λ (x : ℕ). x ≤ k → gathered inputs S x ≡ gathered inputs S j)
      (λ h. refl)
      (λ x h ih u. gathered-other S x (none x h u) ∙ ih (omega arith))
      k l (le_refl k)

  -- a member's own input is among it
  pub gathered-holds : (S n d : ℕ) → d < n → bit S d ≡ 1 → Inside (get_or inputs d 0) (gathered inputs S n)
  unfolding gathered
  gathered-holds S n d l h =
      le_ind
      (λ (x : ℕ). Inside (get_or inputs d 0) (gathered inputs S x))
      (inside-trans (union_right (gathered inputs S d) (get_or inputs d 0)) (inside-of-eq (sym (gathered-member S d h))))
      (λ x k ih. inside-trans ih (grows x))
      n l
    where
      grows : (x : ℕ) → Inside (gathered inputs S x) (gathered inputs S (suc x))
      grows x = union_left (gathered inputs S x) _

  -- and a larger set gathers more
  pub gathered-mono : (S T n : ℕ) → Inside S T → Inside (gathered inputs S n) (gathered inputs T n)
  unfolding gathered holds
  gathered-mono S T zero p = none_inside 0
  gathered-mono S T (suc n) p = union-mono (gathered-mono S T n p) (piece (bit-cases S n))
    where
      piece : (bit S n ≡ 0) ⊎ (bit S n ≡ 1) → Inside (cond (eqb (bit S n) 1) (input_of inputs (suc n)) 0) (cond (eqb (bit T n) 1) (input_of inputs (suc n)) 0)
      piece (inl z) = rw z (none_inside _)
      piece (inr o) = rw (o, member-inside n p o) (inside-refl _)
