-- A run past the end of a list, and two lists compared.
use Prim.Native.Nat.{ℕ, ◌+◌, ◌≤◌}
use mathlib.Core.Path.{◌≡◌, refl, sym, ap}
use mathlib.Core.Bool.{Bool, true, false, ◌&&◌, true≢false}
use mathlib.Core.List.{List, [], ◌∷◌}
use native.Mathlib.Omega.{arith}
use lib.ListN.{length, drop, drop_of_length-le}
use lib.Dec.{eqb}
use borrow.Author.Tests.{eqb-true, eq-eqb}
use Rattle.text.specs.Text.{same, run}

pub run_ends : {A : Type 0} (f : A → Bool) (l : List A) (i : ℕ) → length l ≤ i → i ≡ i + run f (drop i l)
unfolding run
run_ends {A} f l i h = let s : run f (drop i l) ≡ 0 = ap (λ (x : List A). run f x) (drop_of_length-le l h) in omega arith

both_true : (s t : Bool) → (s && t) ≡ true → (s ≡ true) × (t ≡ true)
both_true true t e = (refl, e)
both_true false t e = absurd (true≢false (sym e))

-- the same bytes
pub same-is : (a b : List ℕ) → same a b ≡ true → a ≡ b
unfolding same
same-is [] [] e = refl
same-is [] (b ∷ bs) e = absurd (true≢false (sym e))
same-is (a ∷ xs) [] e = absurd (true≢false (sym e))
same-is (a ∷ xs) (b ∷ ys) e =
    let h = both_true (eqb a b) (same xs ys) e in
    let p : a ≡ b = eqb-true a b h.0 in
    let q : xs ≡ ys = same-is xs ys h.1 in
    rw (p, q)

pub same_self : (a : List ℕ) → same a a ≡ true
unfolding same
same_self [] = refl
same_self (a ∷ xs) = rw (eq-eqb a a refl, same_self xs)

pub same_not : (a b : List ℕ) → (a ≡ b → ⊥) → same a b ≡ false
same_not a b h = by_cases (same a b) refl
  where
    by_cases : (t : Bool) → same a b ≡ t → same a b ≡ false
    by_cases true e = absurd (h (same-is a b e))
    by_cases false e = e
