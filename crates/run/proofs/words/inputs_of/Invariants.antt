use Rattle.run.proofs.Little.{Read}
use Rattle.run.proofs.words.inputs_of.Given as goal

abbrev pub invariant-loop-i : goal.invariant-loop-i
invariant-loop-i l = Read l.bytes l.inputs l.i
