-- The arrays of a level: MODEL 2 and 3. Levels, arrays and registers are counted from 1.
-- Executable.
use Rattle.std.specs.Prelude.{ℕ, ◌+◌, ◌-◌, ◌*◌, ◌/◌, ◌%◌, ◌^◌, Bool, true, false, eqb}

-- "level k into arrays of 2^(k-1) registers"
unfoldable pub array_length : ℕ → ℕ
array_length k = 2 ^ (k - 1)

-- "The own array of station i is g = i/2^(k-1), rounded up."
unfoldable pub own_array : ℕ → ℕ → ℕ
own_array k i = (i + array_length k - 1) / array_length k

-- "The other is g+1 for an odd g, g-1 for an even one."
abbrev pub neighbour : Bool → ℕ → ℕ
neighbour true g = g + 1
neighbour false g = g - 1

unfoldable pub other_array : ℕ → ℕ → ℕ
other_array k i = neighbour (eqb (own_array k i % 2) 1) (own_array k i)

-- where register j of array c stands in its level's row, from 1: behind the registers of the arrays before
unfoldable pub place : ℕ → ℕ → ℕ → ℕ
place k c j = (c - 1) * array_length k + j
