use Rattle.page.proofs.Listed.{Stationed}
use Rattle.page.proofs.fields.Page.put_stations.Given as goal

abbrev pub invariant-loop-i : goal.invariant-loop-i
invariant-loop-i l = Stationed l.rows l.initial.self l.self l.i
