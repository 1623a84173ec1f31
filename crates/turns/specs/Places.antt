-- Where a station's row stands. Indices are counted from 0.
use Rattle.std.specs.Prelude.{ℕ, ◌+◌, ◌-◌, ◌%◌}
use Rattle.method.specs.Board.{registers}

-- the index of station i's row; of some row for a number that is no station
abbrev pub seat_at : ℕ → ℕ
seat_at i = (i + (registers - 1)) % registers
