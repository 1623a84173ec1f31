-- One set inside another, and their sizes.
use mathlib.Core.Path.{◌≡◌, refl, sym, ap, ◌∙◌, subst}
use mathlib.Core.Bool.{true}
use mathlib.Core.Logic.{◌⊎◌, inl, inr}
use Prim.Native.Nat.{ℕ, zero, suc, ◌+◌, ◌*◌, ◌/◌, ◌%◌, ◌^◌, ◌≤◌, ◌<◌, max}
use native.Mathlib.Nat.{le_trans, le_refl, mod-lt, zero-lt-suc, one-mul, add-zero}
use native.Mathlib.Omega.{arith}
use borrow.Author.Tests.{eqb-true, eq-eqb}
use lib.Arith.{bin_ind}
use lib.Bits.{or_step, or_zero_l}
use lib.Count.{ones, ones_step, ones_cat}
use lib.Pow.{pow_pos}
use Rattle.sets.specs.Mask.{size, union, bit, holds, Inside}
use Rattle.sets.proofs.Members.{bit-cases, digit-zero, digit-half}
use Rattle.sets.proofs.Digits.{bit-small, bit-none, bit-union, bit-alone, bit-alone-only}

pub inside-refl : (a : ℕ) → Inside a a
inside-refl a = record { digit = λ d. le_refl (bit a d) }

pub inside-trans : {a b c : ℕ} → Inside a b → Inside b c → Inside a c
inside-trans p q = record { digit = λ d. le_trans (p.digit d) (q.digit d) }

pub inside-of-eq : {a b : ℕ} → a ≡ b → Inside a b
inside-of-eq {a} e = subst (λ (x : ℕ). Inside a x) e (inside-refl a)

pub none_inside : (a : ℕ) → Inside 0 a
none_inside a = record { digit = λ d. omega (arith, bit-none d) }

-- a union holds both, and lies inside whatever holds both
pub union_left : (a b : ℕ) → Inside a (union a b)
union_left a b = record { digit = λ d. omega (arith, bit-union a b d) }

pub union_right : (a b : ℕ) → Inside b (union a b)
union_right a b = record { digit = λ d. omega (arith, bit-union a b d) }

pub union-inside : {a b c : ℕ} → Inside a c → Inside b c → Inside (union a b) c
union-inside {a} {b} {c} p q = record { digit = λ d. omega (arith, p.digit d, q.digit d, bit-union a b d) }

pub union-mono : {a b c d : ℕ} → Inside a c → Inside b d → Inside (union a b) (union c d)
union-mono {c = c} {d = d} p q = union-inside (inside-trans p (union_left c d)) (inside-trans q (union_right c d))

-- a member of the smaller is one of the larger
pub member-inside : {a b : ℕ} (d : ℕ) → Inside a b → bit a d ≡ 1 → bit b d ≡ 1
member-inside {a} {b} d p h = omega (arith, p.digit d, bit-small b d)

pub holds-inside : {a b : ℕ} (i : ℕ) → Inside a b → holds a i ≡ true → holds b i ≡ true
unfolding holds
holds-inside zero p h = h
holds-inside {a} {b} (suc d) p h = eq-eqb (bit b d) 1 (member-inside d p (eqb-true (bit a d) 1 h))

-- ---- sizes

pub size_none : size 0 ≡ 0
unfolding ones
size_none = refl

pub size-zero : (s : ℕ) → size s ≡ 0 → s ≡ 0
size-zero = bin_ind (λ (s : ℕ). size s ≡ 0 → s ≡ 0) (λ h. refl) (λ s ih h. let z : s / 2 ≡ 0 = ih (omega (arith, ones_step s)) in omega (arith, ones_step s))

pub size-alone : (e : ℕ) → size (2 ^ e) ≡ 1
unfolding ones
size-alone e = ap ones (sym (add-zero _ ∙ one-mul (2 ^ e))) ∙ ones_cat e 1 0 (pow_pos e)

pub size-union : (a b : ℕ) → size (union a b) ≤ size a + size b
size-union = bin_ind (λ (a : ℕ). (b : ℕ) → size (union a b) ≤ size a + size b) (λ b. omega (arith, or_zero_l b, ap ones (or_zero_l b))) step
  where
    step : (a : ℕ) → ((b : ℕ) → size (union (a / 2) b) ≤ size (a / 2) + size b) → (b : ℕ) → size (union a b) ≤ size a + size b
    step a ih b =
        let m : ℕ = max (a % 2) (b % 2) in
        let l : m < 2 = omega (arith, mod-lt a (zero-lt-suc 1), mod-lt b (zero-lt-suc 1)) in
        let u : union a b ≡ union (a / 2) (b / 2) * 2 + m = or_step a b in
        let q : union a b % 2 ≡ m = omega arith in
        let h : union a b / 2 ≡ union (a / 2) (b / 2) = omega arith in
        omega (arith, ones_step (union a b), ap ones h, ones_step a, ones_step b, ih (b / 2))

half-inside : {a b : ℕ} → Inside a b → Inside (a / 2) (b / 2)
half-inside {a} {b} p = record { digit = λ d. omega (arith, p.digit (suc d), digit-half a d, digit-half b d) }

low-inside : {a b : ℕ} → Inside a b → a % 2 ≤ b % 2
low-inside {a} {b} p = omega (arith, p.digit 0, digit-zero a, digit-zero b)

both : (a b : ℕ) → Inside a b → (size a ≤ size b) × (size b ≤ size a → a ≡ b)
both = bin_ind (λ (a : ℕ). (b : ℕ) → Inside a b → (size a ≤ size b) × (size b ≤ size a → a ≡ b)) base step
  where
    base : (b : ℕ) → Inside 0 b → (size 0 ≤ size b) × (size b ≤ size 0 → 0 ≡ b)
    base b p = (omega (arith, size_none), λ h. sym (size-zero b (omega (arith, size_none))))

    step : (a : ℕ) → ((b : ℕ) → Inside (a / 2) b → (size (a / 2) ≤ size b) × (size b ≤ size (a / 2) → a / 2 ≡ b))
        → (b : ℕ) → Inside a b → (size a ≤ size b) × (size b ≤ size a → a ≡ b)
    step a ih b p =
        let i = ih (b / 2) (half-inside p) in
        let l = low-inside p in
        let x = ones_step a in
        let y = ones_step b in
        (omega arith, λ h. let e : a / 2 ≡ b / 2 = i.1 (omega arith) in omega arith)

pub size-inside : (a b : ℕ) → Inside a b → size a ≤ size b
size-inside a b p = (both a b p).0

-- one set inside another of no larger size is that set
pub inside-full : (a b : ℕ) → Inside a b → size b ≤ size a → a ≡ b
inside-full a b p = (both a b p).1

-- of two sets that are comparable the one of no larger size lies inside the other
pub smaller-inside : {a b : ℕ} → Inside a b ⊎ Inside b a → size a ≤ size b → Inside a b
smaller-inside (inl p) h = p
smaller-inside {a} {b} (inr p) h = inside-of-eq (sym (inside-full b a p h))

-- the set of a member alone lies inside, so a set that has a member is not empty
pub alone-inside : (s d : ℕ) → bit s d ≡ 1 → Inside (2 ^ d) s
alone-inside s d h = record { digit = λ e. go e (bit-cases (2 ^ d) e) }
  where
    go : (e : ℕ) → (bit (2 ^ d) e ≡ 0) ⊎ (bit (2 ^ d) e ≡ 1) → bit (2 ^ d) e ≤ bit s e
    go e (inl z) = omega arith
    go e (inr o) = rw (bit-alone-only d e o, h, bit-alone d) (le_refl 1)

pub member-counts : (s d : ℕ) → bit s d ≡ 1 → 0 < size s
member-counts s d h = omega (arith, size-inside (2 ^ d) s (alone-inside s d h), size-alone d)

pub counted : (s : ℕ) → 0 < size s → 0 < s
counted zero h = absurd (omega (arith, size_none))
counted (suc s) h = omega arith
