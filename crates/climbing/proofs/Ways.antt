-- The gathering and the climb by their ways out: which way a definition goes under the tests that lead there. What a callee gave is a
-- variable with its equation.
use Prim.Native.Nat.{ℕ, zero, suc, ◌+◌, ◌≤◌, ◌<◌}
use mathlib.Core.Path.{◌≡◌, refl}
use borrow.Author.Tests.{lt-ltb, le-ltb}
use lib.Dec.{eqb, eqb-suc-zero}
use Rattle.std.specs.Prelude.{None, Some}
use Rattle.sets.specs.Absent.{unless_zero}
use Rattle.sets.specs.Mask.{member_after}
use Rattle.method.specs.declared.Side.TheVariants.{Own}
use Rattle.method.specs.declared.Round.TheVariants.{First}
use Rattle.method.specs.declared.State.{State}
use Rattle.method.specs.declared.State.TheVariants.{Uniting, Gathering, Settled}
use Rattle.method.specs.Steps.{gather_at, gather, climb, reading}

pub gather-over : (S i got : ℕ) → None ≡ unless_zero (member_after S i) → Settled S got ≡ gather S i got
unfolding gather
gather-over S i got e = go (member_after S i) e
  where
    go : (j : ℕ) → None ≡ unless_zero j → Settled S got ≡ gather_at (eqb j 0) S j got
    go zero e = refl
    go (suc j) e = cc

pub gather-next : (S i got j : ℕ) → Some j ≡ unless_zero (member_after S i) → Gathering S j got ≡ gather S i got
unfolding gather
gather-next S i got j e = go (member_after S i) e
  where
    go : (x : ℕ) → Some j ≡ unless_zero x → Gathering S j got ≡ gather_at (eqb x 0) S x got
    go zero e = cc
    go (suc x) e = let z : j ≡ suc x = cc in rw (z, eqb-suc-zero)

pub ruleset gathering = (gather-over, gather-next)

pub climb-on : (N k S : ℕ) → k < N → Uniting (k + 1) (reading S 0) (reading 0 0) Own First ≡ climb N k S
unfolding climb
climb-on N k S h = rw (lt-ltb _ _ h)

pub climb-over : (N k S : ℕ) (s : State) → N ≤ k → s ≡ gather S 0 0 → s ≡ climb N k S
unfolding climb
climb-over N k S s h e = rw (le-ltb _ _ h) e

pub ruleset climbing = (climb-on, climb-over)
