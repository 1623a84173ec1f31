-- Numbers as text, in decimal and in hex digits.
use Rattle.std.specs.Prelude.{ℕ, zero, suc, ◌+◌, ◌/◌, ◌%◌, true, false, cond, List, [], ◌∷◌, ◌++◌, ltb}

-- `0` to `9`, then `a` to `f`: "in small letters"
abbrev pub digit : ℕ → ℕ
digit d = cond (ltb d 10) (48 + d) (87 + d)

-- the last w digits of x in this base, the highest first
unfoldable pub digits : ℕ → ℕ → ℕ → List ℕ
digits base zero x = []
digits base (suc w) x = digits base w (x / base) ++ (digit (x % base) ∷ [])

-- how many decimal digits x has, one at least, looking at no more than `most` further ones
unfoldable pub width_in : ℕ → ℕ → ℕ
width_in zero x = 1
width_in (suc most) x = elim (ltb x 10) [ true ↦ 1 | false ↦ suc (width_in most (x / 10)) ]

unfoldable pub width : ℕ → ℕ
width x = width_in x x

-- "decimal, with no zero in front"
abbrev pub decimal : ℕ → List ℕ
decimal x = digits 10 (width x) x

-- a set "in 4 hexadecimal digits", or "in 16"
abbrev pub hex : ℕ → ℕ → List ℕ
hex w x = digits 16 w x
