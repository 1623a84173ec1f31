-- The record before the first turn: an array of what a function gives of each input, and lines that are not written.
use Prim.Native.Nat.{ℕ, ◌<◌}
use mathlib.Core.Path.{◌≡◌, refl, sym, ap, subst, ◌∙◌}
use mathlib.Core.List.{List, [], ◌∷◌, map}
use lib.ListN.{length, replicate, length-map, get_or-map}
use lib.Seq.{ext_get_or}
use Rattle.std.specs.Prelude.{Option}
use Rattle.std.specs.Array.{IsMapOf}
use Rattle.std.specs.Fn.{Mut, Called}
use Rattle.method.specs.declared.Row.{Row}
use Rattle.method.specs.Board.{not_begun, unwritten, empty_level, depth, fresh, fresh_on}

-- what a function gives of each element in turn is its map, where each call gives what m does
pub mapped : {F A B : Type 0} (g : Mut F (A × Unit {0}) B) (f : F) (xs : List A) (ys : List B) (n : ℕ) (m : A → B) (d : A) → length xs ≡ n
    → ((p q : F) (x : A) (y : B) → Called g p (x, tt) y q → y ≡ m x) → IsMapOf g f xs ys n → ys ≡ map m xs
mapped g f xs ys n m d e gives is =
    ext_get_or (m d) ys (map m xs) (is.long ∙ sym (length-map xs m ∙ e))
    (λ i l. let c = is.at i d (m d) (subst (λ (k : ℕ). i < k) is.long l) in gives _ _ _ _ c.2 ∙ sym (get_or-map m xs i d))

-- a line that is not written for each input
constant : (inputs : List ℕ) → map (λ (s : ℕ). unwritten) inputs ≡ replicate (length inputs) unwritten
constant [] = refl
constant (s ∷ l) = ap (λ (t : List (Option ℕ)). unwritten ∷ t) (constant l)

pub fresh-is : (n d : ℕ) (inputs : List ℕ) (rows : List Row) → length inputs ≡ 16 → d ≡ depth n → rows ≡ map not_begun inputs → record { stations = n; depth = d; board = replicate 4 (empty_level 16); lines = replicate 16 unwritten; rows = rows } ≡ fresh n inputs
unfolding fresh fresh_on
fresh-is n d inputs rows l e f = rw (e, f, constant inputs, l)
