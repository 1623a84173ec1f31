use Prim.Native.Nat.{ℕ, ◌+◌, ◌*◌, ◌^◌}
use mathlib.Core.Path.{◌≡◌, ap}
use native.Mathlib.Numerals.{add-one}
use native.Mathlib.Nat.{pow-suc}
use native.Mathlib.Omega.{arith}
use borrow.Author.Count.{below_more}
use Rattle.method.proofs.Depth.{depth_is}
use Rattle.sets.proofs.Members.{below_power}
use Rattle.board.proofs.start.depth_of.Goals as goal

pub overflow_add-levels : goal.overflow_add-levels
overflow_add-levels c = omega (arith, below_power c.loop-reach.levels, c.loop-reach.invariant.0)

pub loop-reach-preserved : goal.loop-reach-preserved
loop-reach-preserved c =
    let l = c.loop-reach in
    let doubled : l.reach * 2 ≡ 2 ^ (l.levels + 1) = rw (add-one l.levels, pow-suc 2 l.levels) (ap (λ (x : ℕ). x * 2) l.invariant.0) in
    (doubled, below_more _ _ l.invariant.1 (rw (← l.invariant.0, ← c.from.ensures) c.loop-reach-test.true), omega (arith, l.invariant.2))

pub returns : goal.returns
returns c =
    let l = c.loop-reach in
    depth_is _ _ (rw (← l.invariant.0, ← c.from.ensures) c.loop-reach-test.false) l.invariant.1
