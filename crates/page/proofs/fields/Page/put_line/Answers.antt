use Rattle.page.proofs.Laying.{none_begun, one_field, line_put}
use borrow.Author.Rules.{rules}
use Rattle.page.proofs.fields.Page.put_line.Goals as goal

pub loop-field-init : goal.loop-field-init
loop-field-init c = none_begun _ _ _ c.args.fields.now c.put.ensures

pub loop-field-preserved : goal.loop-field-preserved
loop-field-preserved c = one_field _ _ _ _ _ _ _ _ c.loop-field-test.true c.loop-field.invariant c.put_byte.ensures c.put_field.ensures

pub returns : goal.returns
returns c = search (line_put, rules)
