-- How a refusal and its place are one number: MODEL 7.
use Rattle.std.specs.Prelude.{ℕ, ◌+◌, ◌*◌}

-- "the number of a refusal and 100 times its place"
abbrev pub with_place : ℕ → ℕ → ℕ
with_place number place = number + 100 * place
