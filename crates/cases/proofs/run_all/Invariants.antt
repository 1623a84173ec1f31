-- No more entries agree than were judged.
use Rattle.std.proofs.Common.{◌≤◌}
use Rattle.cases.proofs.run_all.Given as goal

abbrev pub invariant-loop-entry : goal.invariant-loop-entry
invariant-loop-entry g l = l.agree ≤ l.entry-counter
