use Rattle.std.proofs.Common.{◌≡◌, ◌<◌, ◌≤◌, drop}
use Rattle.text.specs.Number.{number_to}
use Rattle.text.proofs.Numbers.{to_go}
use Rattle.fields.proofs.number.number.Given as goal

-- the field's number is what the value so far gives with the digits that are left
abbrev pub invariant-loop-b : goal.invariant-loop-b
invariant-loop-b l = record {
  some : 1 ≤ l.v;
  small : l.v < 2560;
  most_is : l.most ≡ l.hi;
  to_go : number_to l.hi l.field ≡ to_go l.hi l.v (drop l.b-index l.rest);
}
