-- The next member of a set: what `member_after` finds, and that nothing else can be the next member.
use Prim.Native.Nat.{ℕ, zero, suc, ◌+◌, ◌-◌, ◌/◌, ◌%◌, ◌^◌, ◌≤◌, ◌<◌, suc-le-suc}
use mathlib.Core.Path.{◌≡◌, refl, sym, ap, ◌∙◌}
use mathlib.Core.Logic.{◌⊎◌, inl, inr, ⊎_elim}
use mathlib.Core.Bool.{Bool, true, false}
use native.Mathlib.Nat.{div-eq_of_lt, lt_of_lt_of_le, eq-or-lt_of_le, two-pow-succ, zero-div, div-one, le_trans, div-le_self}
use native.Mathlib.Decide.{dec_lt}
use native.Mathlib.Omega.{arith}
use borrow.Author.Tests.{eqb-true, eqb-false}
use lib.Dec.{eqb}
use lib.Pow.{pow_mono, shr-shr}
use lib.Count.{count_trailing_zeros, under}
use Rattle.sets.specs.Mask.{bit, holds, member_from, member_after}

-- j is the next member of s above i
pub record Next (s i j : ℕ) : Type 0 where
  pub above : i < j
  pub member : bit s (j - 1) ≡ 1
  pub none : (m : ℕ) → i < m → m < j → bit s (m - 1) ≡ 0

-- a digit is 0 or 1
pub bit-cases : (s d : ℕ) → (bit s d ≡ 0) ⊎ (bit s d ≡ 1)
bit-cases s d = go (s / 2 ^ d % 2) (omega arith)
  where
    go : (b : ℕ) → b < 2 → (b ≡ 0) ⊎ (b ≡ 1)
    go zero h = inl refl
    go (suc zero) h = inr refl
    go (suc (suc b)) h = absurd (omega arith)

-- a number of w digits has none from place w on, and s is one of s digits
pub below_power : (s : ℕ) → s < 2 ^ s
below_power zero = omega arith
below_power (suc s) = let ih : s < 2 ^ s = below_power s in rw two-pow-succ (omega arith)

pub high_digit : (s w d : ℕ) → s < 2 ^ w → w ≤ d → bit s d ≡ 0
high_digit s w d l h = let low : s / 2 ^ d ≡ 0 = div-eq_of_lt (lt_of_lt_of_le l (pow_mono h)) in rw low

pub beyond : (s d : ℕ) → s ≤ d → bit s d ≡ 0
beyond s d h = high_digit s s d (below_power s) h

-- membership by its digit
pub holds-digit : (s i : ℕ) → 0 < i → holds s i ≡ eqb (bit s (i - 1)) 1
unfolding holds
holds-digit s zero h = absurd (omega arith)
holds-digit s (suc d) h = let e : suc d - 1 ≡ d = omega arith in rw e

-- what one step of the look from i on gives
from-held : (most s i : ℕ) → holds s i ≡ true → member_from (suc most) s i ≡ i
unfolding member_from
from-held most s i e = rw (e, member_from)

from-passed : (most s i : ℕ) → holds s i ≡ false → member_from (suc most) s i ≡ member_from most s (suc i)
unfolding member_from
from-passed most s i e = rw (e, member_from)

held : (s d : ℕ) → holds s (suc d) ≡ true → bit s d ≡ 1
unfolding holds
held s d e = eqb-true _ _ e

passed : (s d : ℕ) → holds s (suc d) ≡ false → bit s d ≡ 0
unfolding holds
passed s d e = ⊎_elim (λ z. z) (λ o. absurd (eqb-false _ _ e o)) (bit-cases s d)

-- a look that finds nothing has passed no member
from-none : (most s i : ℕ) → member_from most s (suc i) ≡ 0 → (d : ℕ) → i ≤ d → d < i + most → bit s d ≡ 0
from-none zero s i e d l h = absurd (omega arith)
from-none (suc most) s i e d l h = go (λ q x. from-none most s (suc i) q d x (omega arith)) (holds s (suc i)) refl
  where
    go : (member_from most s (suc (suc i)) ≡ 0 → suc i ≤ d → bit s d ≡ 0) → (b : Bool) → holds s (suc i) ≡ b → bit s d ≡ 0
    go ih true q = let z : ◌≡◌ {A = ℕ} (suc i) 0 = sym (from-held most s (suc i) q) ∙ e in absurd (omega arith)
    go ih false q = ⊎_elim
        (λ (x : i ≡ d). rw (← x) (passed s i q))
        (λ (x : suc i ≤ d). ih (sym (from-passed most s (suc i) q) ∙ e) x)
        (eq-or-lt_of_le l)

-- a look that finds a member finds the next one
from_next : (most s i j : ℕ) → member_from most s (suc i) ≡ suc j → Next s i (suc j)
unfolding member_from
from_next zero s i j e = let z : ◌≡◌ {A = ℕ} 0 (suc j) = e in absurd (omega arith)
from_next (suc most) s i j e = go (λ q. from_next most s (suc i) j q) (holds s (suc i)) refl
  where
    go : (member_from most s (suc (suc i)) ≡ suc j → Next s (suc i) (suc j)) → (b : Bool) → holds s (suc i) ≡ b → Next s i (suc j)
    go ih true q =
        let z : suc i ≡ suc j = sym (from-held most s (suc i) q) ∙ e in
        let y : suc j - 1 ≡ i = omega arith in
        record { above = omega arith; member = rw y (held s i q); none = λ m l u. absurd (omega arith) }
    go ih false q =
        let r : Next s (suc i) (suc j) = ih (sym (from-passed most s (suc i) q) ∙ e) in
        record {
          above = omega (arith, r.above);
          member = r.member;
          none = λ m l u. ⊎_elim
              (λ (x : suc i ≡ m). let y : m - 1 ≡ i = omega arith in rw y (passed s i q))
              (λ (x : suc i < m). r.none m x u)
              (eq-or-lt_of_le l);
        }

-- `member_after` where no digit is left, and where one is
after-empty : (s i : ℕ) → eqb (s / 2 ^ i) 0 ≡ true → member_after s i ≡ 0
unfolding member_after
after-empty s i e = rw (e, member_after)

after_look : (s i : ℕ) → eqb (s / 2 ^ i) 0 ≡ false → member_after s i ≡ member_from s s (suc i)
unfolding member_after
after_look s i e = rw (e, member_after)

-- digits from place i on, where s ends before it
pub shifted-out : (s i d : ℕ) → s / 2 ^ i ≡ 0 → i ≤ d → bit s d ≡ 0
shifted-out s i d e h =
    let y : i + (d - i) ≡ d = omega arith in
    let x : s / 2 ^ d ≡ 0 = ap (λ (x : ℕ). s / 2 ^ x) (sym y) ∙ sym (shr-shr s i (d - i)) ∙ ap (λ (x : ℕ). x / 2 ^ (d - i)) e ∙ zero-div (2 ^ (d - i)) in
    rw x

pub after_none : (s i : ℕ) → member_after s i ≡ 0 → (m : ℕ) → i < m → bit s (m - 1) ≡ 0
after_none s i e m h = go (eqb (s / 2 ^ i) 0) refl
  where
    go : (b : Bool) → eqb (s / 2 ^ i) 0 ≡ b → bit s (m - 1) ≡ 0
    go true q = shifted-out s i (m - 1) (eqb-true _ _ q) (omega arith)
    go false q = near (dec_lt (m - 1) (i + s))
      where
        near : Dec (m - 1 < i + s) → bit s (m - 1) ≡ 0
        near (yes l) = from-none s s i (sym (after_look s i q) ∙ e) (m - 1) (omega arith) l
        near (no l) = beyond s (m - 1) (omega arith)

pub after_next : (s i j : ℕ) → member_after s i ≡ suc j → Next s i (suc j)
after_next s i j e = go (eqb (s / 2 ^ i) 0) refl
  where
    go : (b : Bool) → eqb (s / 2 ^ i) 0 ≡ b → Next s i (suc j)
    go true q = let z : ◌≡◌ {A = ℕ} 0 (suc j) = sym (after-empty s i q) ∙ e in absurd (omega arith)
    go false q = from_next s s i j (sym (after_look s i q) ∙ e)

-- one next member only
pub next_one : {s i j k : ℕ} → Next s i j → Next s i k → j ≡ k
next_one {s} {i} {j} {k} a b = go (dec_lt j k) (dec_lt k j)
  where
    clash : (x y : ℕ) → Next s i x → Next s i y → x < y → ⊥
    clash x y p q l = let z : ◌≡◌ {A = ℕ} 0 1 = sym (q.none x p.above l) ∙ p.member in omega arith

    go : Dec (j < k) → Dec (k < j) → j ≡ k
    go (yes l) d = absurd (clash j k a b l)
    go (no l) (yes h) = absurd (clash k j b a h)
    go (no l) (no h) = omega arith

pub next-is : (s i j : ℕ) → Next s i j → member_after s i ≡ j
next-is s i j r = go (member_after s i) refl
  where
    go : (k : ℕ) → member_after s i ≡ k → member_after s i ≡ j
    go zero e = let z : ◌≡◌ {A = ℕ} 0 1 = sym (after_none s i e j r.above) ∙ r.member in absurd (omega arith)
    go (suc k) e = e ∙ next_one (after_next s i k e) r

pub none_is : (s i : ℕ) → ((m : ℕ) → i < m → bit s (m - 1) ≡ 0) → member_after s i ≡ 0
none_is s i h = go (member_after s i) refl
  where
    go : (k : ℕ) → member_after s i ≡ k → member_after s i ≡ 0
    go zero e = e
    go (suc k) e =
        let r : Next s i (suc k) = after_next s i k e in
        let z : ◌≡◌ {A = ℕ} 0 1 = sym (h (suc k) r.above) ∙ r.member in
        absurd (omega arith)

-- the zeros below the lowest set digit of n, a number of k digits that is not 0
pub record Gap (k n z : ℕ) : Type 0 where
  pub short : z < k
  pub ends : bit n z ≡ 1
  pub zeros : (d : ℕ) → d < z → bit n d ≡ 0

-- digit 0 is the remainder, and the digits above it are those of the half
pub digit-zero : (n : ℕ) → bit n 0 ≡ n % 2
digit-zero n = ap (λ (x : ℕ). x % 2) (div-one n)

pub digit-half : (n d : ℕ) → bit n (suc d) ≡ bit (n / 2) d
digit-half n d =
    let e : 1 + d ≡ suc d = omega arith in
    ap (λ (x : ℕ). x % 2) (ap (λ (x : ℕ). n / 2 ^ x) (sym e) ∙ sym (shr-shr n 1 d))

pub gap : (k n : ℕ) → n < 2 ^ k → 0 < n → Gap k n (count_trailing_zeros k n)
unfolding count_trailing_zeros
gap zero n l p = absurd (omega arith)
gap (suc k) n l p = go (n % 2) refl (λ h. gap k (n / 2) (let t : 2 ^ suc k ≡ 2 ^ k + 2 ^ k = two-pow-succ k in omega arith) h)
  where
    go : (b : ℕ) → n % 2 ≡ b → (0 < n / 2 → Gap k (n / 2) (count_trailing_zeros k (n / 2))) → Gap (suc k) n (under (n % 2) (count_trailing_zeros k (n / 2)))
    go zero e ih =
        let r : Gap k (n / 2) (count_trailing_zeros k (n / 2)) = ih (omega arith) in
        rw e record {
          short = omega (arith, r.short);
          ends = digit-half n (count_trailing_zeros k (n / 2)) ∙ r.ends;
          zeros = λ d. below d r;
        }
      where
        below : (d : ℕ) → Gap k (n / 2) (count_trailing_zeros k (n / 2)) → d < suc (count_trailing_zeros k (n / 2)) → bit n d ≡ 0
        below zero r h = digit-zero n ∙ e
        below (suc d) r h = digit-half n d ∙ r.zeros d (omega arith)
    go (suc b) e ih = rw e record { short = omega arith; ends = digit-zero n ∙ omega arith; zeros = λ d h. absurd (omega arith) }

-- the next member above i stands past the gap in what is left of s without its first i digits
pub gap-next : (w s i : ℕ) → s < 2 ^ w → 0 < s / 2 ^ i → Gap w (s / 2 ^ i) (count_trailing_zeros w (s / 2 ^ i))
gap-next w s i l p = gap w (s / 2 ^ i) (le_trans (suc-le-suc (div-le_self s (2 ^ i))) l) p

pub past-gap : (k s i z : ℕ) → Gap k (s / 2 ^ i) z → i + z + 1 ≡ member_after s i
past-gap k s i z g = sym (next-is s i (i + z + 1) record { above = omega arith; member = last; none = before })
  where
    digit : (d : ℕ) → bit (s / 2 ^ i) d ≡ bit s (i + d)
    digit d = ap (λ (x : ℕ). x % 2) (shr-shr s i d)

    last : bit s (i + z + 1 - 1) ≡ 1
    last = let e : i + z + 1 - 1 ≡ i + z = omega arith in rw e (sym (digit z) ∙ g.ends)

    before : (m : ℕ) → i < m → m < i + z + 1 → bit s (m - 1) ≡ 0
    before m h u = let e : m - 1 ≡ i + (m - 1 - i) = omega arith in rw e (sym (digit (m - 1 - i)) ∙ g.zeros (m - 1 - i) (omega arith))
