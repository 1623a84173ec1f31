use mathlib.Core.Path.{ap}
use native.Mathlib.Omega.{arith}
use Rattle.method.specs.declared.Turned.{Turned}
use Rattle.turns.proofs.Stepping.{step_ok, step_err}
use Rattle.turns.proofs.turning.step.Goals as goal

pub returns-in-Ok-clause-record : goal.returns-in-Ok-clause-record
returns-in-Ok-clause-record c =
    ap (λ (x : Turned). x.run)
    (step_ok _ _ _ c.seat_of-at.ensures (omega arith) _ c.perform.new.run _ _ c.if-not-may_turn.ensures c.next_op.ensures c.perform.ensures.record c.in-Ok.ensures.told c.onward.ensures)

pub returns-in-Ok-clause-told : goal.returns-in-Ok-clause-told
returns-in-Ok-clause-told c =
    ap (λ (x : Turned). x.did)
    (step_ok _ _ _ c.seat_of-at.ensures (omega arith) _ c.perform.new.run _ _ c.if-not-may_turn.ensures c.next_op.ensures c.perform.ensures.record c.in-Ok.ensures.told c.onward.ensures)

pub returns-in-Err-clause-record : goal.returns-in-Err-clause-record
returns-in-Err-clause-record c =
    ap (λ (x : Turned). x.run)
    (step_err _ _ _ c.seat_of-at.ensures (omega arith) _ _ _ c.if-not-may_turn.ensures c.next_op.ensures c.perform.ensures.record c.in-Err.ensures.told)

pub returns-in-Err-clause-told : goal.returns-in-Err-clause-told
returns-in-Err-clause-told c =
    ap (λ (x : Turned). x.did)
    (step_err _ _ _ c.seat_of-at.ensures (omega arith) _ _ _ c.if-not-may_turn.ensures c.next_op.ensures c.perform.ensures.record c.in-Err.ensures.told)
