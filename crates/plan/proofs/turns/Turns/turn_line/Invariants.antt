use Rattle.std.proofs.Common.{◌≡◌}
use Rattle.text.specs.Plan.{each, take_turn}
use Rattle.plan.specs.Left.{fields_left}
use Rattle.plan.proofs.turns.Turns.turn_line.Given as goal

-- the fields from the start give what those that are left give with the turns so far
abbrev pub invariant-loop-field : goal.invariant-loop-field
invariant-loop-field l = each (take_turn l.fn.stations) l.fn.self (fields_left l.fn.fields) ≡ each (take_turn l.fn.stations) l.self (fields_left l.field-iterator)
