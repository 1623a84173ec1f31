-- What one read gave joins what stood in front.
use Rattle.std.proofs.Common.{◌-◌, ◌≤◌, length, rules, arith, sym, subst}
use Rattle.std.specs.Io.KnownBytes.{Consumes}
use Rattle.std.proofs.KnownBytes.{Consumes-trans}
use Rattle.input.proofs.Filling.{front_joined}
use Rattle.input.proofs.read_all.Goals as goal

pub loop-preserved : goal.loop-preserved
loop-preserved g c =
    let before = c.loop.invariant in
    let count = rw c.in-Some.is at c.in_ok-count.ensures.count in
    let bytes = rw c.in-Some.is at c.in_ok-count.ensures.bytes in
    let fits : c.in-Some.count ≤ length c.read_some.new.rest = omega (arith, count) in
    record {
      long = search rules;
      within = search rules;
      gave = subst (Consumes _ _) (sym (front_joined c.loop.at (length c.loop.text - c.loop.at) c.in-Some.count c.loop.text c.read_some.new.rest before.within fits)) (Consumes-trans _ _ _ _ _ before.gave bytes);
    }
