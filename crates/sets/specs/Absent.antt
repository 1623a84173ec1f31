-- Where a definition has 0 for what is not there, code has `None`.
use Rattle.std.specs.Prelude.{ℕ, zero, suc, Option, None, Some}

abbrev pub unless_zero : ℕ → Option ℕ
unless_zero zero = None
unless_zero (suc n) = Some (suc n)
