-- The first turn at which a test holds.
use Rattle.std.specs.Prelude.{ℕ, zero, suc, Bool, true, false}

-- the first t from here on, of `left` more, at which the test holds; where there is none, the end
unfoldable pub first_from : (ℕ → Bool) → ℕ → ℕ → ℕ
first_from test t zero = t
first_from test t (suc left) = elim (test t) [ true ↦ t | false ↦ first_from test (suc t) left ]
