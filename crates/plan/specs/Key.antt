-- A key of a code.
use Rattle.std.specs.Prelude.{ℕ, ◌+◌, ◌*◌, ◌%◌, ◌^◌, List, [], ◌∷◌}

-- its last eight bytes. Different keys, different codes
unfoldable pub key_on : ℕ → List ℕ → ℕ
key_on k [] = k
key_on k (b ∷ bs) = key_on (k % 2 ^ 56 * 256 + b) bs
