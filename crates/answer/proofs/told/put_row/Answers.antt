use Rattle.answer.proofs.Laid.{row_laid}
use borrow.Author.Rules.{rules}
use Rattle.answer.proofs.told.put_row.Goals as goal

pub returns : goal.returns
returns c = search (row_laid, rules)
