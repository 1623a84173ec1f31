use Rattle.turns.proofs.Orders.{Steps}
use Rattle.turns.proofs.playing.play.Given as goal

-- the record is what the turns so far have made of it, and none of them was stopped
abbrev pub invariant-loop-t : goal.invariant-loop-t
invariant-loop-t l = Steps l.initial.run l.turns l.run l.t
