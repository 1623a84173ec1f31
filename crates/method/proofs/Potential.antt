-- How many operations a union may still make. a and b are the registers of the own and of the other array that are not yet known to be
-- filled; e is how many empty registers would still be read if nothing changed: 4 and 3 for own and other in a round that is the first or has
-- changed, 2 and 1 in one that has not. An array that is known to be full is not read, which leaves e / 2 such reads of own, (e + 1) / 2 of other.
use mathlib.Core.Path.{◌≡◌, refl}
use Prim.Native.Nat.{ℕ, zero, suc, ◌+◌, ◌-◌, ◌*◌, ◌/◌, ◌≤◌, ◌<◌, max}
use native.Mathlib.Nat.{le_trans, sub-zero}
use native.Mathlib.Omega.{arith}

potential : ℕ → ℕ → ℕ → ℕ
potential e zero zero = 0
potential e (suc a) zero = 2 * a + e / 2
potential e zero (suc b) = 2 * b + (e + 1) / 2
potential e (suc a) (suc b) = 3 * (a + b) + 1 + e

-- fewer reads are left
mono : (e f a b : ℕ) → e ≤ f → potential e a b ≤ potential f a b
unfolding potential
mono e f zero zero h = omega arith
mono e f (suc a) zero h = omega arith
mono e f zero (suc b) h = omega arith
mono e f (suc a) (suc b) h = omega arith

-- an empty register of own was read, and one of other
own-empty : (e a b : ℕ) → suc e / 2 ≡ suc (e / 2) → suc (potential e (suc a) b) ≤ potential (suc e) (suc a) b
unfolding potential
own-empty e a zero h = omega arith
own-empty e a (suc b) h = omega arith

other-empty : (e a b : ℕ) → (suc e + 1) / 2 ≡ suc ((e + 1) / 2) → suc (potential e a (suc b)) ≤ potential (suc e) a (suc b)
unfolding potential
other-empty e zero b h = omega arith
other-empty e (suc a) b h = omega arith

-- one register more is known of own, or of other, though the round has changed by it
own-known : (a b : ℕ) → suc (potential 4 a b) ≤ potential 2 (suc a) b
unfolding potential
own-known zero zero = omega arith
own-known (suc a) zero = omega arith
own-known zero (suc b) = omega arith
own-known (suc a) (suc b) = omega arith

other-known : (a b : ℕ) → suc (potential 3 a b) ≤ potential 1 a (suc b)
unfolding potential
other-known zero zero = omega arith
other-known (suc a) zero = omega arith
other-known zero (suc b) = omega arith
other-known (suc a) (suc b) = omega arith

start : (L : ℕ) → potential 4 L (suc L) ≤ 6 * L + 2
unfolding potential
start zero = omega arith
start (suc L) = omega arith

-- The same on arrays of L registers of which the first k of own and the first j of other are known. A union begins with a write, whatever
-- the arrays hold: it is counted apart, so that a union makes 6 L - 3 operations at most.
pub left : ℕ → ℕ → ℕ → ℕ → ℕ
left L e k j = potential e (L - max 1 k) (L - j) + (1 - k)

pub left-start : (L : ℕ) → 0 < L → left L 4 0 0 + 3 ≤ 6 * L
unfolding left
left-start zero h = absurd (omega arith)
left-start (suc L) h = rw (pos, sub-zero) (omega (arith, start L))
  where
    pos : suc L - max 1 0 ≡ L
    pos = omega arith

pub left-mono : (L e f k j : ℕ) → e ≤ f → left L e k j ≤ left L f k j
unfolding left
left-mono L e f k j h = omega (arith, mono e f (L - max 1 k) (L - j) h)

-- what is not known of an array of which k registers are, and the next one is within its length
fewer : (L k : ℕ) → 0 < k → k < L → L - max 1 k ≡ suc (L - max 1 (suc k))
fewer L k p h = omega arith

fewer-other : (L j : ℕ) → j < L → L - j ≡ suc (L - suc j)
fewer-other L j h = omega arith

pub left-own-found : (L k j : ℕ) → 0 < k → k < L → suc (left L 4 (suc k) j) ≤ left L 2 k j
unfolding left
left-own-found L k j p h = rw (fewer L k p h) (omega (arith, own-known (L - max 1 (suc k)) (L - j)))

pub left-own-written : (L k j : ℕ) → k < L → suc (left L 4 (suc k) j) ≤ left L 4 k j
unfolding left
left-own-written L zero j h = rw one (omega arith)
  where
    one : max 1 1 ≡ max 1 0
    one = refl
left-own-written L (suc k) j h = le_trans (left-own-found L (suc k) j (omega arith) h) (left-mono L 2 4 (suc k) j (omega arith))

pub left-other-found : (L k j : ℕ) → j < L → suc (left L 3 k (suc j)) ≤ left L 1 k j
unfolding left
left-other-found L k j h = rw (fewer-other L j h) (omega (arith, other-known (L - max 1 k) (L - suc j)))

pub left-other-written : (L k j : ℕ) → j < L → suc (left L 3 k (suc j)) ≤ left L 3 k j
left-other-written L k j h = le_trans (left-other-found L k j h) (left-mono L 1 3 k j (omega arith))

pub left-own-empty : (L e k j : ℕ) → suc e / 2 ≡ suc (e / 2) → 0 < k → k < L → suc (left L e k j) ≤ left L (suc e) k j
unfolding left
left-own-empty L e k j q p h = rw (fewer L k p h) (omega (arith, own-empty e (L - max 1 (suc k)) (L - j) q))

pub left-other-empty : (L e k j : ℕ) → (suc e + 1) / 2 ≡ suc ((e + 1) / 2) → j < L → suc (left L e k j) ≤ left L (suc e) k j
unfolding left
left-other-empty L e k j q h = rw (fewer-other L j h) (omega (arith, other-empty e (L - max 1 k) (L - suc j) q))
