-- The length of a text, and lists that are filled up with 0.
use Prim.Native.Nat.{ℕ, zero, suc, ◌+◌, ◌-◌, ◌≤◌, ◌<◌}
use mathlib.Core.Path.{◌≡◌, refl, sym, ap}
use mathlib.Core.Bool.{Bool}
use mathlib.Core.List.{List, []}
use native.Mathlib.Omega.{arith}
use native.Mathlib.Nat.{sub-zero}
use lib.ListN.{length, get_or, length-append, length-replicate}
use borrow.Author.Tests.{le-leb, lt-leb}
use Rattle.text.specs.Limits.{most_bytes}
use Rattle.text.specs.Text.{lines_of}
use Rattle.text.specs.Plan.{refused, all_lines, sized, reading}
use Rattle.text.specs.Buffers.{zeros, padded}
use Rattle.text.specs.declared.Fault.TheVariants.{LongText}

pub too_long : (text : List ℕ) → most_bytes < length text → refused LongText 0 ≡ reading text
unfolding reading
too_long text h = sym (ap (λ (t : Bool). sized t text) (lt-leb (length text) most_bytes h))

pub not-too-long : (text : List ℕ) → length text ≤ most_bytes → all_lines (lines_of text) ≡ reading text
unfolding reading
not-too-long text h = sym (ap (λ (t : Bool). sized t text) (le-leb (length text) most_bytes h))

pub zeros-at : (n j : ℕ) → get_or (zeros n) j 0 ≡ 0
zeros-at zero j = refl
zeros-at (suc n) zero = refl
zeros-at (suc n) (suc j) = zeros-at n j

pub padded-none : (n : ℕ) → zeros n ≡ padded n []
unfolding padded
padded-none n = ap zeros (sym (sub-zero n))

pub padded-long : (n : ℕ) (l : List ℕ) → length l ≤ n → length (padded n l) ≡ n
unfolding padded
padded-long n l h =
    let a : length (padded n l) ≡ length l + length (zeros (n - length l)) = length-append l (zeros (n - length l)) in
    let r : length (zeros (n - length l)) ≡ n - length l = length-replicate (n - length l) 0 in
    omega arith
