use Rattle.method.specs.Board.{not_begun}
use Rattle.answer.proofs.Laid.{none_laid, laid_more}
use Rattle.answer.proofs.told.put_rows.Goals as goal

pub loop-i-init : goal.loop-i-init
loop-i-init c = none_laid _ _

pub loop-i-preserved : goal.loop-i-preserved
loop-i-preserved c = laid_more _ _ (not_begun 0) _ _ _ c.loop-i-test.true c.requires c.loop-i.invariant c.put_row.ensures
