use Prim.Native.Nat.{◌*◌}
use mathlib.Core.List.{◌++◌}
use mathlib.Core.Path.{◌≡◌}
use lib.ListN.{drop}
use Rattle.answer.specs.Answer.{answer_bytes}
use Rattle.answer.proofs.told.put_rows.Given as goal

abbrev pub invariant-loop-i : goal.invariant-loop-i
invariant-loop-i l = l.answer ≡ answer_bytes l.i l.rows ++ drop (20 * l.i) l.initial.answer
