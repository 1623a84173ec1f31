use Rattle.plan.proofs.LastFields.{none_left}
use Rattle.plan.proofs.line.Fields.is_empty.Goals as goal

pub returns : goal.returns
returns c = none_left _ _ c.is_none.ensures
