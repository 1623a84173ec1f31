-- A station that a field names is one of the plan.
use Prim.Native.Nat.{ℕ, zero, suc, ◌≤◌}
use mathlib.Core.Path.{◌≡◌}
use mathlib.Core.List.{List}
use native.Mathlib.Omega.{arith}
use Rattle.std.specs.Option.{ok_or}
use Rattle.std.specs.Prelude.{Option, Result, IfOk}
use Rattle.sets.specs.Absent.{unless_zero}
use Rattle.text.specs.Number.{number_to}
use Rattle.text.specs.declared.Fault.{Fault}
use Rattle.text.specs.declared.Fault.TheVariants.{BadStation}
use Rattle.text.proofs.Numbers.{number-most}

pub station_in_range : (n : ℕ) (f : List ℕ) (o : Option ℕ) (r : Result ℕ Fault) → o ≡ unless_zero (number_to n f) → r ≡ ok_or o BadStation
    → IfOk r (λ i. (1 ≤ i) × (i ≤ n))
station_in_range n f o r e h = rw (h, e) (named (number_to n f) (number-most n f))
  where
    named : (k : ℕ) → k ≤ n → IfOk (ok_or (unless_zero k) BadStation) (λ i. (1 ≤ i) × (i ≤ n))
    named zero m = tt
    named (suc k) m = (omega arith, m)
