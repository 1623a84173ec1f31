-- The arrays by blocks, all counted from 0: block b of level d holds the 2 ^ d stations from b * 2 ^ d on, and its array is array b + 1 of
-- level d + 1. Two neighbours, b and `sibling b`, make up block b / 2 of the next level.
use mathlib.Core.Path.{◌≡◌, refl, sym, ap, ◌∙◌, subst}
use mathlib.Core.Bool.{Bool, true, false}
use Prim.Native.Nat.{ℕ, suc, ◌+◌, ◌-◌, ◌*◌, ◌/◌, ◌%◌, ◌^◌, ◌≤◌, ◌<◌}
use native.Mathlib.Nat.{add-div_right, div-div-eq-div-mul, pow-suc}
use native.Mathlib.Omega.{arith}
use borrow.Author.Tests.{eqb-true, eqb-false}
use lib.Arith.{digits_div, digits_mod, digits_lt}
use lib.Dec.{eqb}
use lib.Pow.{pow_pos, pow-add, shr_lt}
use Rattle.sets.specs.Arrays.{array_length, own_array, neighbour, other_array, place}

pub block-length : (d : ℕ) → array_length (suc d) ≡ 2 ^ d
unfolding array_length
block-length d = let e : suc d - 1 ≡ d = omega arith in rw e

pub own_block : (d e : ℕ) → own_array (suc d) (suc e) ≡ suc (e / 2 ^ d)
unfolding own_array
own_block d e =
    let h : suc e + 2 ^ d - 1 ≡ e + 2 ^ d = omega arith in
    rw (block-length, h, add-div_right e (pow_pos d)) (omega arith)

-- b + 1 for even b, b - 1 for odd b
abbrev pub sibling : ℕ → ℕ
sibling b = b + 1 - 2 * (b % 2)

pub other_block : (d e : ℕ) → other_array (suc d) (suc e) ≡ suc (sibling (e / 2 ^ d))
unfolding other_array
other_block d e = rw own_block (go (e / 2 ^ d) (eqb (suc (e / 2 ^ d) % 2) 1) refl)
  where
    go : (b : ℕ) (t : Bool) → eqb (suc b % 2) 1 ≡ t → neighbour t (suc b) ≡ suc (sibling b)
    go b true q = let h : suc b % 2 ≡ 1 = eqb-true _ _ q in omega arith
    go b false q = let h : suc b % 2 ≡ 1 → ⊥ = eqb-false _ _ q in omega arith

-- the block at the next level
pub block-above : (d e : ℕ) → e / 2 ^ suc d ≡ e / 2 ^ d / 2
block-above d e = ap (λ (x : ℕ). e / x) (pow-suc 2 d) ∙ sym (div-div-eq-div-mul e (2 ^ d) 2)

-- where a register stands in its row, from 0; no two stand in one place
pub place-of-block : (d b p : ℕ) → place (suc d) (suc b) (suc p) - 1 ≡ b * 2 ^ d + p
unfolding place
place-of-block d b p =
    let h : suc b - 1 ≡ b = omega arith in
    rw (block-length, h) (omega arith)

pub same_place : (d b p c q : ℕ) → p < 2 ^ d → q < 2 ^ d → b * 2 ^ d + p ≡ c * 2 ^ d + q → (b ≡ c) × (p ≡ q)
same_place d b p c q h k e = (
  sym (digits_div b h) ∙ ap (λ (x : ℕ). x / 2 ^ d) e ∙ digits_div c k,
  sym (digits_mod b h) ∙ ap (λ (x : ℕ). x % 2 ^ d) e ∙ digits_mod c k,
)

-- the registers of the own and of the other block, for a station below 2 ^ N, stand among the first 2 ^ N
pub block_within : (N d b p : ℕ) → d ≤ N → b < 2 ^ (N - d) → p < 2 ^ d → b * 2 ^ d + p < 2 ^ N
block_within N d b p h k l =
    let e : N - d + d ≡ N = omega arith in
    subst (λ (x : ℕ). b * 2 ^ d + p < x) (sym (pow-add 2 (N - d) d) ∙ ap (λ (x : ℕ). 2 ^ x) e) (digits_lt k l)

pub own-within : (N d e : ℕ) → d ≤ N → e < 2 ^ N → e / 2 ^ d < 2 ^ (N - d)
own-within N d e h l = shr_lt (N - d) d (let x : N - d + d ≡ N = omega arith in rw x l)

pub sibling-within : (N d b : ℕ) → d < N → b < 2 ^ (N - d) → sibling b < 2 ^ (N - d)
sibling-within N d b h l =
    let x : N - d ≡ suc (N - suc d) = omega arith in
    let y : b < 2 ^ suc (N - suc d) = rw x at l in
    rw x (omega arith)
