use Rattle.std.proofs.Common.{◌≡◌, drop}
use Rattle.plan.specs.Key.{key_on}
use Rattle.plan.proofs.code.key_of.Given as goal

-- the bytes that are left go on from the key so far
abbrev pub invariant-loop-b : goal.invariant-loop-b
invariant-loop-b l = key_on 0 l.code ≡ key_on l.key (drop l.b-index l.code)
