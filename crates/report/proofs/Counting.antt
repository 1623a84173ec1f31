-- The counts of a run's rows, added up.
use Prim.Native.Nat.{ℕ, zero, suc, ◌+◌, ◌-◌, ◌≤◌}
use mathlib.Core.Path.{◌≡◌, refl, ap}
use native.Mathlib.Omega.{arith}
use native.Mathlib.Numerals.{add-one}
use lib.ListN.{length, get_or, take}
use Rattle.std.specs.List.{sum_by}
use Rattle.std.proofs.lemmas.List.Sums.{sum_by_more}
use Rattle.method.specs.declared.Row.{Row}
use Rattle.method.specs.declared.Run.{Run}
use Rattle.method.specs.Board.{not_begun, row_of}
use Rattle.method.specs.Demand.{counts_of}

pub counts-rows : (run : Run) (n : ℕ) → n ≤ length run.rows → sum_by (λ (r : Row). r.count) (take n run.rows) ≡ counts_of run n
unfolding counts_of row_of
counts-rows run zero h = refl
counts-rows run (suc n) h =
    let e : n + 1 - 1 ≡ n = omega arith in
    rw (← add-one n, sum_by_more (λ (r : Row). r.count) run.rows n (not_begun 0) (omega arith), e) (ap (λ (m : ℕ). m + (get_or run.rows n (not_begun 0)).count) (counts-rows run n (omega arith)))
