use Prim.Native.Nat.{ℕ, ◌-◌, ◌^◌, ◌≤◌, ◌<◌}
use mathlib.Core.Path.{◌≡◌}
use Rattle.board.proofs.start.depth_of.Given as goal

abbrev pub invariant-loop-reach : goal.invariant-loop-reach
invariant-loop-reach l = (l.reach ≡ 2 ^ l.levels) × ((M : ℕ) → M < l.levels → 2 ^ M < l.n) × (1 ≤ l.reach)

abbrev pub decreases-loop-reach : goal.decreases-loop-reach
decreases-loop-reach l = l.n - l.reach
