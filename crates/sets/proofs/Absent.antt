-- The next member as an option: none where no digit is left, and else the one past the gap.
use Prim.Native.Nat.{ℕ, zero, suc, ◌+◌, ◌-◌, ◌/◌, ◌^◌, ◌≤◌, ◌<◌}
use mathlib.Core.Path.{◌≡◌, refl, sym, ◌∙◌}
use native.Mathlib.Omega.{arith}
use lib.Count.{count_trailing_zeros}
use Rattle.std.specs.Prelude.{Some, None}
use Rattle.sets.specs.Mask.{member_after}
use Rattle.sets.specs.Absent.{unless_zero}
use Rattle.sets.proofs.Members.{high_digit, shifted-out, none_is, gap-next, past-gap}

-- a number that is not 0 is there
pub unless-present : (n : ℕ) → 0 < n → Some n ≡ unless_zero n
unless-present zero h = absurd (omega arith)
unless-present (suc n) h = refl

pub unless-absent : (n : ℕ) → n ≡ 0 → None ≡ unless_zero n
unless-absent n e = rw e

pub after_end : (s i : ℕ) → s < 2 ^ 64 → 64 ≤ i → None ≡ unless_zero (member_after s i)
after_end s i l h = unless-absent _ (none_is s i (λ m u. high_digit s 64 (m - 1) l (omega arith)))

pub after_last : (s i r : ℕ) → r ≡ s / 2 ^ i → r ≡ 0 → None ≡ unless_zero (member_after s i)
after_last s i r e z = unless-absent _ (none_is s i (λ m u. shifted-out s i (m - 1) (sym e ∙ z) (omega arith)))

pub after_gap : (s i r : ℕ) → s < 2 ^ 64 → r ≡ s / 2 ^ i → (r ≡ 0 → ⊥) → Some (i + count_trailing_zeros 64 r + 1) ≡ unless_zero (member_after s i)
after_gap s i r l e f =
    let next = past-gap 64 s i _ (gap-next 64 s i l (omega arith)) in
    rw (e, ← next) (unless-present _ (omega arith))

pub ruleset after = (after_end, after_last, after_gap)
