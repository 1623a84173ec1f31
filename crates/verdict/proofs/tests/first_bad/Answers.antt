-- The closure asks of each turn what the definition asks of it by its place.
use borrow.Author.Rules.{rules}
use Rattle.std.specs.Prelude.{ℕ, not, ◌&&◌, leb}
use Rattle.std.proofs.lemmas.Iterator.{YieldsList-from_slice}
use Rattle.std.proofs.lemmas.Iterator.Search.{position_from_yields_List}
use Rattle.verdict.proofs.Judging.{first_found}
use Rattle.verdict.proofs.tests.first_bad.Goals as goal

pub returns : goal.returns
returns c =
    rw (← first_found c.args.n c.args.turns.now)
    (position_from_yields_List (λ (turn : ℕ). not (leb 1 turn && leb turn c.args.n)) _ _ c.position.result c.position.ensures.ran (YieldsList-from_slice _ c.iter.ensures.rest) (λ x b q k. search rules))
