use mathlib.Core.Path.{◌≡◌}
use Rattle.page.specs.Lines.{stock_line, numbered}
use Rattle.page.specs.Page.{put_behind, codes_from}
use Rattle.page.proofs.fields.Page.put_stocks.Given as goal

abbrev pub invariant-loop-k : goal.invariant-loop-k
invariant-loop-k l = l.self ≡ put_behind l.initial.self (numbered stock_line 0 (codes_from l.stocks.cells.now l.stocks.lens.now 0 l.k))
