-- The value of a field as its digits are read.
use Prim.Native.Nat.{ℕ, ◌+◌, ◌-◌, ◌*◌, ◌≤◌, ◌<◌}
use mathlib.Core.Path.{◌≡◌, refl, ap, ◌∙◌}
use mathlib.Core.Bool.{Bool, true, false, cond, ◌&&◌, and-false}
use mathlib.Core.List.{List, [], ◌∷◌}
use native.Mathlib.Omega.{arith}
use native.Mathlib.Nat.{zero-add}
use lib.ListN.{length, get_or, drop, drop_of_length-le}
use lib.Seq.{drop-cons}
use lib.Dec.{leb}
use borrow.Author.Tests.{ne_eqb, le-leb, lt-leb, leb-true, leb-false}
use Rattle.text.specs.Text.{all}
use Rattle.text.specs.Number.{digit, value_on, value_of, numeral, number_to}
use mathlib.Core.Bool.{and-true}
use native.Mathlib.Nat.{le_trans}
use native.Mathlib.Numerals.{add-one}

-- what the field gives whose digits so far are worth v, where l is left of it
unfoldable pub to_go : ℕ → ℕ → List ℕ → ℕ
to_go hi v l = cond (all digit l && leb (value_on v l) hi) (value_on v l) 0

cond-zero : (t : Bool) → ◌≡◌ {A = ℕ} (cond t 0 0) 0
cond-zero true = refl
cond-zero false = refl

module _ (b : ℕ) where
  digit-in : 48 ≤ b → b ≤ 57 → digit b ≡ true
  digit-in l h = rw (le-leb 48 b l, le-leb b 57 h)

  digit_low : b < 48 → digit b ≡ false
  digit_low l = rw (lt-leb 48 b l)

  digit-high : 57 < b → digit b ≡ false
  digit-high h = rw (lt-leb b 57 h) (and-false (leb 48 b))

-- ---- the first byte

pub first-digit : (hi b : ℕ) (bs : List ℕ) → 49 ≤ b → b ≤ 57 → number_to hi (b ∷ bs) ≡ to_go hi (b - 48) bs
unfolding number_to to_go value_on all
first-digit hi b bs l h =
    simp (digit-in b (omega arith) h, ne_eqb b 48 (λ e. omega arith), and-true, zero-add)

no_digit : (hi b : ℕ) (bs : List ℕ) → digit b ≡ false → number_to hi (b ∷ bs) ≡ 0
unfolding number_to all
no_digit hi b bs e = rw e

zero-first : (hi : ℕ) (bs : List ℕ) → number_to hi (48 ∷ bs) ≡ 0
unfolding number_to all value_on
zero-first hi [] = cond-zero (leb 0 hi)
zero-first hi (b ∷ bs) = rw (and-false (all digit (b ∷ bs)))

pub first-low : (hi b : ℕ) (bs : List ℕ) → b < 49 → number_to hi (b ∷ bs) ≡ 0
first-low hi b bs l = low (leb 48 b) refl
  where
    low : (t : Bool) → leb 48 b ≡ t → number_to hi (b ∷ bs) ≡ 0
    low true e = let h : 48 ≤ b = leb-true 48 b e in let z : b ≡ 48 = omega arith in rw z (zero-first hi bs)
    low false e = no_digit hi b bs (digit_low b (leb-false 48 b e))

pub first-high : (hi b : ℕ) (bs : List ℕ) → 57 < b → number_to hi (b ∷ bs) ≡ 0
first-high hi b bs h = no_digit hi b bs (digit-high b h)

-- ---- a further byte

value_grows : (v : ℕ) (l : List ℕ) → v ≤ value_on v l
unfolding value_on
value_grows v [] = omega arith
value_grows v (b ∷ l) = le_trans (omega arith) (value_grows (v * 10 + (b - 48)) l)

pub past : (hi v : ℕ) (l : List ℕ) → hi < v → to_go hi v l ≡ 0
unfolding to_go
past hi v l h =
    let g : v ≤ value_on v l = value_grows v l in
    rw (lt-leb (value_on v l) hi (omega arith), and-false (all digit l))

module _ (hi v : ℕ) (l : List ℕ) (i : ℕ) (h : i < length l) where
  opened : to_go hi v (drop i l) ≡ to_go hi v (get_or l i 0 ∷ drop (i + 1) l)
  opened = rw (add-one, drop-cons l i 0 h)

  pub on-digit : 48 ≤ get_or l i 0 → get_or l i 0 ≤ 57 → to_go hi v (drop i l) ≡ to_go hi (v * 10 + (get_or l i 0 - 48)) (drop (i + 1) l)
  unfolding to_go value_on all
  on-digit a b = opened ∙ rw (digit-in (get_or l i 0) a b)

  no-digit-on : digit (get_or l i 0) ≡ false → to_go hi v (drop i l) ≡ 0
  unfolding to_go all
  no-digit-on e = opened ∙ rw e

  pub on-low : get_or l i 0 < 48 → to_go hi v (drop i l) ≡ 0
  on-low a = no-digit-on (digit_low (get_or l i 0) a)

  pub on-high : 57 < get_or l i 0 → to_go hi v (drop i l) ≡ 0
  on-high a = no-digit-on (digit-high (get_or l i 0) a)

pub to_end : (hi v : ℕ) (l : List ℕ) (i : ℕ) → length l ≤ i → v ≤ hi → to_go hi v (drop i l) ≡ v
unfolding to_go all value_on
to_end hi v l i h g = rw (drop_of_length-le l h, le-leb v hi g)

-- ---- the first byte, of a field

pub field-none : (hi : ℕ) (f : List ℕ) → length f ≡ 0 → number_to hi f ≡ 0
unfolding number_to
field-none hi f e = ap (number_to hi) (drop_of_length-le f {i = 0} (omega arith))

-- it is no more than hi
pub number-most : (hi : ℕ) (f : List ℕ) → number_to hi f ≤ hi
unfolding number_to
number-most hi f = by_cases (numeral f) (leb (value_of f) hi) refl
  where
    by_cases : (s t : Bool) → leb (value_of f) hi ≡ t → cond (s && t) (value_of f) 0 ≤ hi
    by_cases true true e = leb-true (value_of f) hi e
    by_cases true false e = omega arith
    by_cases false t e = omega arith
