-- The key of a code, byte by byte, and codes compared by it.
use Prim.Native.Nat.{ℕ, ◌+◌, ◌*◌, ◌%◌, ◌^◌, ◌≤◌, ◌<◌}
use mathlib.Core.Path.{◌≡◌, refl, sym, ap, ◌∙◌}
use mathlib.Core.Bool.{Bool, ◌&&◌}
use mathlib.Core.List.{List, [], ◌∷◌, map}
use native.Mathlib.Numerals.{add-one}
use lib.ListN.{get_or, drop, length, drop_of_length-le}
use lib.Pointwise.{pointwise}
use lib.Seq.{drop-cons}
use lib.Dec.{eqb}
use borrow.Author.Tests.{ne_eqb}
use Rattle.std.proofs.lemmas.List.{get_or-map}
use Rattle.text.specs.Text.{same}
use Rattle.text.proofs.Runs.{same_not}
use Rattle.plan.specs.Key.{key_on}

pub key_more : (l : List ℕ) (key i : ℕ) → i < length l → key_on key (drop i l) ≡ key_on (key % 2 ^ 56 * 256 + get_or l i 0) (drop (i + 1) l)
unfolding key_on
key_more l key i h = rw (add-one, drop-cons l i 0 h)

pub key_end : (l : List ℕ) (key i : ℕ) → length l ≤ i → key_on key (drop i l) ≡ key
unfolding key_on
key_end l key i h = rw (drop_of_length-le l h)

pub ruleset keyed = (key_more, key_end)

-- two codes whose keys are equal are compared byte by byte
pub same_bytes : (a b : List ℕ) → pointwise eqb a b ≡ same a b
unfolding same
same_bytes [] [] = refl
same_bytes [] (y ∷ b) = refl
same_bytes (x ∷ a) [] = refl
same_bytes (x ∷ a) (y ∷ b) = ap (λ (t : Bool). eqb x y && t) (same_bytes a b)

-- where the keys differ the bytes do
pub other_key : (a b : List ℕ) (k l : ℕ) → k ≡ key_on 0 a → l ≡ key_on 0 b → (k ≡ l → ⊥) → eqb k l ≡ same a b
other_key a b k l p q h = ne_eqb k l h ∙ sym (same_not a b (λ e. h (p ∙ ap (key_on 0) e ∙ sym q)))

-- the key that stands at a code's place is its own
pub key_at : (codes : List (List ℕ)) (keys : List ℕ) (k : ℕ) → keys ≡ map (key_on 0) codes → k < length codes → get_or keys k 0 ≡ key_on 0 (get_or codes k [])
key_at codes keys k e h = rw e (get_or-map (key_on 0) codes k [] 0 h)

pub ruleset compared = (other_key, key_at)
