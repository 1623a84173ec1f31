use Rattle.std.proofs.Common.{rules, ap, ◌∙◌, ◌≡◌, ◌∷◌}
use Rattle.plan.specs.Left.{fields_left, fields_in}
use Rattle.plan.proofs.Cuts.{field_cut}
use Rattle.plan.proofs.line.FieldsIterator.next.Goals as goal

pub returns-clause-steps : goal.returns-clause-steps
returns-clause-steps c =
    ap fields_in c.in_ok-rest.was
    ∙ field_cut _ _ c.field_end.ensures _ _ c.split_at.ensures.front c.split_at.ensures.back c.get-self.result c.get-self.ensures.lookup.0

-- each field that comes leaves one less
pub returns-clause-goes : goal.returns-clause-goes
returns-clause-goes c =
    let h : fields_left c.args.self.now ≡ c.split_at.result.0.now ∷ fields_in c.get-self.result =
    ap fields_in c.in_ok-rest.was
    ∙ field_cut _ _ c.field_end.ensures _ _ c.split_at.ensures.front c.split_at.ensures.back c.get-self.result c.get-self.ensures.lookup.0 in
    search rules
