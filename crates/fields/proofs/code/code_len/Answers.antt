use Rattle.std.proofs.Common.{rules, tests, ◌∙◌, ◌≡◌}
use Rattle.std.specs.Prelude.{reverse}
use Rattle.std.specs.List.{position}
use Rattle.std.proofs.lemmas.Iterator.Adapters.{YieldsList-from_rev_slice}
use Rattle.std.proofs.lemmas.Iterator.Search.{position_from_yields_List}
use Rattle.fields.proofs.Measured.{solid, all-spaces, long-code, short-code}
use Rattle.fields.proofs.code.code_len.Goals as goal
use Rattle.fields.proofs.code.code_len.Goals.{After-position}

found : (c : After-position) → c.position.result ≡ position solid (reverse c.args.field.now)
found c = position_from_yields_List solid _ _ c.position.result c.position.ensures.ran (YieldsList-from_rev_slice c.args.field.now (search rules)) (λ x b q k. search (rules, tests))

pub returns-in_err-spaces : goal.returns-in_err-spaces
returns-in_err-spaces c = c.from_residual.ensures ∙ all-spaces _ _ (found (goal.at.returns-in_err-spaces c).After-position) c.in_err-spaces.was

pub returns-then-n-gt-CODE : goal.returns-then-n-gt-CODE
returns-then-n-gt-CODE c = long-code _ _ (found (goal.at.returns-then-n-gt-CODE c).After-position) _ c.in_ok-spaces.was c.if-n-gt-CODE.true

pub returns : goal.returns
returns c = short-code _ _ (found (goal.at.returns c).After-position) _ c.in_ok-spaces.was c.if-n-gt-CODE.false
