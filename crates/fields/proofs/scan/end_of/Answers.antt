use native.Mathlib.Omega.{arith}
use lib.ListN.{length-drop}
use lib.Seq.{take_all}
use Rattle.std.proofs.Common.{rules, tests, ap, refl, ◌∙◌, ◌+◌, ℕ, Bool, not, ◌≡◌, drop}
use Rattle.std.proofs.lemmas.Iterator.{YieldsList-from_slice}
use Rattle.std.proofs.lemmas.Iterator.Search.{position_from_yields_List}
use Rattle.text.proofs.Runs.{run_ends}
use Rattle.text.specs.Text.{run}
use Rattle.fields.proofs.Scanned.{found}
use Rattle.fields.proofs.scan.end_of.Goals as goal

negated : {t b s : Bool} → b ≡ not t → t ≡ s → b ≡ not s
negated e f = e ∙ ap not f

pub returns-in_default : goal.returns-in_default
returns-in_default g c = λ test h. run_ends test c.args.text.now c.args.at (omega (arith, c.in_default.ensures.lookup))

pub returns : goal.returns
returns g c = λ test h.
    let p = position_from_yields_List (λ b. not (test b)) _ _ c.position.result c.position.ensures.ran (YieldsList-from_slice c.in-Some.rest.now c.iter.ensures.rest) (λ x b q k. (search (rules, tests), search (negated, h, rules))) in
    let e : c.in-Some.rest.now ≡ drop c.args.at c.args.text.now = c.in-Some.ensures.lookup.0.2 ∙ take_all _ _ (omega (arith, length-drop {A = ℕ})) in
    ap (λ n. c.args.at + n) (c.unwrap_or.ensures ∙ found test (λ b. not (test b)) (λ b. refl) _ _ p ∙ ap (run test) e)
