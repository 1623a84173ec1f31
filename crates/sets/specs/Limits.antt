-- The limits: MODEL 1. Each is named here once.
use Rattle.std.specs.Prelude.{ℕ}

abbrev pub most_stations : ℕ
most_stations = 16

abbrev pub most_stocks : ℕ
most_stocks = 64

abbrev pub most_turns : ℕ
most_turns = 4096

-- "bytes of a plan text"
abbrev pub most_bytes : ℕ
most_bytes = 32768

-- "bytes of a code, without the spaces at its end"
abbrev pub most_code : ℕ
most_code = 12
