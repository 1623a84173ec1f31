-- A set by its digits: those of a union and of one member alone, and that the digits say which set it is.
use mathlib.Core.Path.{◌≡◌, refl, sym, ap, ◌∙◌}
use Prim.Native.Nat.{ℕ, zero, suc, ◌/◌, ◌%◌, ◌^◌, ◌<◌, max}
use native.Mathlib.Nat.{mod-lt, zero-lt-suc, zero-div, one-mul, mul-add-mod_self_right, mod-eq_of_lt}
use native.Mathlib.Omega.{arith}
use lib.Arith.{bin_ind}
use lib.Bits.{bit_or, or_shr, or_step}
use lib.Pow.{shl-shr}
use Rattle.sets.specs.Mask.{union, bit}
use Rattle.sets.proofs.Members.{digit-zero, digit-half}

pub bit-small : (s d : ℕ) → bit s d < 2
bit-small s d = mod-lt (s / 2 ^ d) (zero-lt-suc 1)

pub bit-none : (d : ℕ) → bit 0 d ≡ 0
bit-none d = ap (λ (x : ℕ). x % 2) (zero-div (2 ^ d))

pub bit-union : (a b d : ℕ) → bit (union a b) d ≡ max (bit a d) (bit b d)
bit-union a b d = ap (λ (x : ℕ). x % 2) (or_shr a b d) ∙ top (a / 2 ^ d) (b / 2 ^ d)
  where
    top : (x y : ℕ) → bit_or x y % 2 ≡ max (x % 2) (y % 2)
    top x y =
        ap (λ (z : ℕ). z % 2) (or_step x y) ∙ mul-add-mod_self_right (bit_or (x / 2) (y / 2)) 2 (max (x % 2) (y % 2))
        ∙ mod-eq_of_lt (omega (arith, mod-lt x (zero-lt-suc 1), mod-lt y (zero-lt-suc 1)))

-- the set of one member
pub bit-alone : (e : ℕ) → bit (2 ^ e) e ≡ 1
bit-alone e = ap (λ (x : ℕ). x % 2) (ap (λ (x : ℕ). x / 2 ^ e) (sym (one-mul (2 ^ e))) ∙ shl-shr 1 e)

pub bit-alone-only : (e d : ℕ) → bit (2 ^ e) d ≡ 1 → d ≡ e
bit-alone-only zero zero h = refl
bit-alone-only zero (suc d) h = absurd (omega (arith, digit-half 1 d, bit-none d))
bit-alone-only (suc e) zero h = absurd (omega (arith, digit-zero (2 ^ suc e)))
bit-alone-only (suc e) (suc d) h =
    let x : 2 ^ suc e / 2 ≡ 2 ^ e = omega arith in
    ap suc (bit-alone-only e d (ap (λ (y : ℕ). bit y d) (sym x) ∙ sym (digit-half (2 ^ suc e) d) ∙ h))

-- sets whose digits agree are one
pub same_digits : (a b : ℕ) → ((d : ℕ) → bit a d ≡ bit b d) → a ≡ b
same_digits =
    bin_ind (λ (a : ℕ). (b : ℕ) → ((d : ℕ) → bit a d ≡ bit b d) → a ≡ b)
    (bin_ind (λ (b : ℕ). ((d : ℕ) → bit 0 d ≡ bit b d) → 0 ≡ b) (λ h. refl) empty) step
  where
    halves : (a b : ℕ) → a / 2 ≡ b / 2 → bit a 0 ≡ bit b 0 → a ≡ b
    halves a b h l = let p : a % 2 ≡ b % 2 = sym (digit-zero a) ∙ l ∙ digit-zero b in omega arith

    empty : (b : ℕ) → (((d : ℕ) → bit 0 d ≡ bit (b / 2) d) → 0 ≡ b / 2) → ((d : ℕ) → bit 0 d ≡ bit b d) → 0 ≡ b
    empty b ih h = halves 0 b (ih (λ d. bit-none d ∙ sym (bit-none (suc d)) ∙ h (suc d) ∙ digit-half b d)) (h 0)

    step : (a : ℕ) → ((b : ℕ) → ((d : ℕ) → bit (a / 2) d ≡ bit b d) → a / 2 ≡ b) → (b : ℕ) → ((d : ℕ) → bit a d ≡ bit b d) → a ≡ b
    step a ih b h = halves a b (ih (b / 2) (λ d. sym (digit-half a d) ∙ h (suc d) ∙ digit-half b d)) (h 0)
