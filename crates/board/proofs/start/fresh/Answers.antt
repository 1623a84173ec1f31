use borrow.Author.Rules.{rules}
use Rattle.board.proofs.Filled.{fresh-is, mapped}
use Rattle.method.specs.Board.{not_begun}
use Rattle.board.proofs.start.fresh.Goals as goal

pub returns : goal.returns
returns c = fresh-is _ _ _ _ (search rules) c.depth_of.ensures (mapped _ _ _ _ 16 not_begun 0 (search rules) (λ p q x y h. search rules) c.map.ensures.items)
