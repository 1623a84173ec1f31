use Rattle.std.proofs.Common.{◌≡◌}
use Rattle.text.specs.Plan.{each, take_code, holding}
use Rattle.plan.specs.Left.{fields_left}
use Rattle.plan.proofs.codes.Codes.take_codes.Given as goal

-- the fields from the start give what those that are left give with the codes and the set so far
abbrev pub invariant-loop-field : goal.invariant-loop-field
invariant-loop-field l = each take_code (holding l.fn.self l.fn.set) (fields_left l.fn.fields) ≡ each take_code (holding l.self l.set) (fields_left l.field-iterator)
