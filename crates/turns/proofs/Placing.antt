-- Where on the record a station's row stands.
use Prim.Native.Nat.{ℕ, ◌-◌, ◌≤◌}
use mathlib.Core.Path.{◌≡◌}
use native.Mathlib.Omega.{arith}
use Rattle.turns.specs.Places.{seat_at}

-- a station's seat is its own
pub seat_own : (i : ℕ) → 1 ≤ i → i ≤ 16 → seat_at i ≡ i - 1
seat_own i low high = omega arith
