-- A set as a mask: MODEL 1. "As a number, a set has the binary digit 2^(i-1) for station i".
-- Executable; no width is built in.
use Rattle.std.specs.Prelude.{ℕ, zero, suc, ◌-◌, ◌/◌, ◌%◌, ◌^◌, ◌≤◌, Bool, true, false, cond, ◌&&◌, eqb, leb}
use Rattle.std.specs.Int.Bits.{bit_or}
use Rattle.std.specs.Int.Count.{ones}

-- "The size of a set of stations is how many stations it holds."
abbrev pub size : ℕ → ℕ
size s = ones s

-- the set of those that are in one or in the other
abbrev pub union : ℕ → ℕ → ℕ
union a b = bit_or a b

-- the set of i alone
abbrev pub alone : ℕ → ℕ
alone i = 2 ^ (i - 1)

-- the same as a machine word of w digits has it: a number that is not from 1 to w is in no set
abbrev pub alone_in : ℕ → ℕ → ℕ
alone_in w i = cond (leb 1 i && leb i w) (alone i) 0

-- binary digit d of s, from 0
abbrev pub bit : ℕ → ℕ → ℕ
bit s d = s / 2 ^ d % 2

-- whether i is in the set
unfoldable pub holds : ℕ → ℕ → Bool
holds s zero = false
holds s (suc d) = eqb (bit s d) 1

-- one holds the other: every member of a is a member of b
pub record Inside (a b : ℕ) : Type 0 where
  pub digit : (d : ℕ) → bit a d ≤ bit b d

-- the first member of s from i on, looking at no more than `most` numbers; 0 where there is none
unfoldable pub member_from : ℕ → ℕ → ℕ → ℕ
member_from zero s i = 0
member_from (suc most) s i = elim (holds s i) [ true ↦ i | false ↦ member_from most s (suc i) ]

-- the next member of s above i, ascending, or 0 where i is above or at the last: s has no member above s
unfoldable pub member_after : ℕ → ℕ → ℕ
member_after s i = elim (eqb (s / 2 ^ i) 0) [ true ↦ 0 | false ↦ member_from s s (suc i) ]
