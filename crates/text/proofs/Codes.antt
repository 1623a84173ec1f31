-- What is left of a field without the spaces at its end.
use Prim.Native.Nat.{ℕ, ◌≤◌}
use mathlib.Core.Path.{◌≡◌, refl, ap, ◌∙◌}
use mathlib.Core.Bool.{Bool, true, false}
use mathlib.Core.List.{List, [], ◌∷◌, ◌++◌}
use native.Mathlib.Omega.{arith}
use lib.ListN.{length, take, length-take}
use lib.Dec.{eqb}
use borrow.Author.Tests.{eq-eqb, ne_eqb}
use Rattle.text.specs.Text.{space}
use Rattle.text.specs.Code.{before, code_of}

-- the last byte is a space: it goes
pub code-space : (xs : List ℕ) (b : ℕ) → b ≡ space → code_of (xs ++ (b ∷ [])) ≡ code_of xs
unfolding code_of
code-space [] b e = ap (λ (t : Bool). before t b []) (eq-eqb b space e)
code-space (x ∷ xs) b e = ap (λ (l : List ℕ). before (eqb x space) x l) (code-space xs b e)

kept-before : (t : Bool) (x : ℕ) (xs : List ℕ) (b : ℕ) → before t x (xs ++ (b ∷ [])) ≡ x ∷ (xs ++ (b ∷ []))
kept-before true x [] b = refl
kept-before true x (y ∷ xs) b = refl
kept-before false x xs b = refl

-- it is none: all is left
pub code-solid : (xs : List ℕ) (b : ℕ) → (b ≡ space → ⊥) → code_of (xs ++ (b ∷ [])) ≡ xs ++ (b ∷ [])
unfolding code_of
code-solid [] b e = ap (λ (t : Bool). before t b []) (ne_eqb b space e)
code-solid (x ∷ xs) b e =
    ap (λ (l : List ℕ). before (eqb x space) x l) (code-solid xs b e) ∙ kept-before (eqb x space) x xs b

front_of : (t : Bool) (b : ℕ) (c l : List ℕ) → c ≡ take (length c) l → before t b c ≡ take (length (before t b c)) (b ∷ l)
front_of true b [] l e = refl
front_of true b (x ∷ c) l e = ap (λ (z : List ℕ). b ∷ z) e
front_of false b c l e = ap (λ (z : List ℕ). b ∷ z) e

-- a code is the front of its field
pub code-front : (f : List ℕ) → code_of f ≡ take (length (code_of f)) f
unfolding code_of
code-front [] = refl
code-front (b ∷ f) = front_of (eqb b space) b (code_of f) f (code-front f)

pub code-short : (f : List ℕ) → length (code_of f) ≤ length f
code-short f =
    let l : length (code_of f) ≡ length (take (length (code_of f)) f) = ap length (code-front f) in
    let m = simp length-take at l in
    omega arith
