-- The number of levels: the least N with 2 ^ N at least n.
use mathlib.Core.Path.{◌≡◌, refl, ap}
use mathlib.Core.Bool.{Bool, true, false}
use Prim.Native.Nat.{ℕ, zero, suc, ◌+◌, ◌^◌, ◌≤◌, ◌<◌}
use native.Mathlib.Nat.{le_of_lt, le_antisymm, not-le_of_lt, add-zero, add-suc, suc-add, zero-add}
use native.Mathlib.Decide.{ℕ_discrete, dec_lt}
use native.Mathlib.Omega.{arith}
use borrow.Author.Tests.{leb-true, leb-false}
use lib.Dec.{leb}
use Rattle.sets.proofs.Members.{below_power}
use Rattle.method.specs.Board.{depth_from, depth}

from-enough : (most N n : ℕ) → n ≤ 2 ^ (N + most) → n ≤ 2 ^ depth_from most N n
unfolding depth_from
from-enough zero N n h = rw add-zero at h
from-enough (suc most) N n h = go (leb n (2 ^ N)) refl (from-enough most (suc N) n)
  where
    go : (w : Bool) → leb n (2 ^ N) ≡ w → (n ≤ 2 ^ (suc N + most) → n ≤ 2 ^ depth_from most (suc N) n)
        → n ≤ 2 ^ (elim w [ true ↦ N | false ↦ depth_from most (suc N) n ])
    go true q ih = leb-true n (2 ^ N) q
    go false q ih = ih (rw (suc-add, ← (add-suc N most)) h)

from-least : (most N n k : ℕ) → n ≤ 2 ^ k → N ≤ k → depth_from most N n ≤ k
unfolding depth_from
from-least zero N n k h l = l
from-least (suc most) N n k h l = go (leb n (2 ^ N)) refl (from-least most (suc N) n k h)
  where
    go : (w : Bool) → leb n (2 ^ N) ≡ w → (suc N ≤ k → depth_from most (suc N) n ≤ k) → elim w [ true ↦ N | false ↦ depth_from most (suc N) n ] ≤ k
    go true q ih = l
    go false q ih = ih (above (ℕ_discrete N k))
      where
        above : Dec (N ≡ k) → suc N ≤ k
        above (yes e) = absurd (omega (arith, leb-false n (2 ^ N) q, ap (λ (x : ℕ). 2 ^ x) e))
        above (no f) = omega arith

pub depth-enough : (n : ℕ) → n ≤ 2 ^ depth n
unfolding depth
depth-enough n = from-enough n 0 n (rw zero-add (le_of_lt (below_power n)))

pub depth-least : (n k : ℕ) → n ≤ 2 ^ k → depth n ≤ k
unfolding depth
depth-least n k h = from-least n 0 n k h (omega arith)

-- no other number is the least
pub depth_is : (n N : ℕ) → n ≤ 2 ^ N → ((M : ℕ) → M < N → 2 ^ M < n) → N ≡ depth n
depth_is n N h below = le_antisymm (go (dec_lt (depth n) N)) (depth-least n N h)
  where
    go : Dec (depth n < N) → N ≤ depth n
    go (yes l) = absurd (not-le_of_lt (below (depth n) l) (depth-enough n))
    go (no l) = omega arith
