-- The length of a code, which also tells whether it was taken.
use Rattle.std.specs.Prelude.{ℕ, List, length}
use Rattle.text.specs.Plan.{Out, taken, no}

-- 0 for a field that is no code: a code that is taken has a byte at least
abbrev pub length_of : Out (List ℕ) → ℕ
length_of (taken c) = length c
length_of (no fault) = 0
