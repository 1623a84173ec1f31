use Rattle.plan.proofs.Cells.{blank}
use Rattle.plan.proofs.code.CodeDefault.default.Goals as goal

pub invariant_of-result : goal.invariant_of-result
invariant_of-result c = blank _ _ c.default.ensures.long (λ i h. c.default.ensures.at i 0 h) c.default-2.ensures
