-- The inputs: MODEL 7. "An input is 8 bytes, the stocks of a station as a number".
use Rattle.std.specs.Prelude.{ℕ, zero, suc, ◌+◌, ◌*◌, List, [], ◌∷◌, take, drop}

-- the number that these bytes say
unfoldable pub number_in : List ℕ → ℕ
number_in [] = 0
number_in (b ∷ bytes) = b + 256 * number_in bytes

-- the inputs of the first m stations, empty where there are no bytes
unfoldable pub inputs_in : ℕ → List ℕ → List ℕ
inputs_in zero bytes = []
inputs_in (suc m) bytes = number_in (take 8 bytes) ∷ inputs_in m (drop 8 bytes)
