use Rattle.std.proofs.Common.{◌≡◌, ◌≤◌, ◌+◌, length}
use Rattle.text.specs.Text.{lines_of}
use Rattle.text.specs.Plan.{later_lines}
use Rattle.plan.proofs.hand.Hand.take_lines.Given as goal

-- the lines from the start give what the lines that are left give with what is in hand
abbrev pub invariant-loop-rest : goal.invariant-loop-rest
invariant-loop-rest l = record {
  gives : later_lines 2 l.fn.self (lines_of l.fn.text) ≡ later_lines l.place l.self (lines_of l.rest);
  count : l.place + length l.rest ≤ length l.fn.text + 2;
}

abbrev pub decreases-loop-rest : goal.decreases-loop-rest
decreases-loop-rest l = length l.rest
