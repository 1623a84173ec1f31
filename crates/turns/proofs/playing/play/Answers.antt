use Prim.Native.Nat.{ℕ, ◌+◌}
use mathlib.Core.Path.{◌≡◌, refl, sym, ap, subst, ◌∙◌}
use mathlib.Core.Bool.{true}
use native.Mathlib.Omega.{arith}
use lib.ListN.{length, get_or}
use Rattle.method.specs.declared.Run.{Run}
use Rattle.method.specs.Board.{not_begun}
use Rattle.method.specs.Demand.{is_settled}
use Rattle.turns.specs.declared.playing.Played.{Played}
use Rattle.turns.specs.Step.{step_of}
use Rattle.turns.specs.Playing.{is_unwritten}
use Rattle.turns.proofs.Orders.{Steps, steps-none, steps-more, steps-stop, steps_all, steps-still, unwritten-stays, settled-still}
use Rattle.turns.proofs.playing.play.Goals as goal
use Rattle.turns.proofs.playing.play.Goals.{else-not-is_settled-via-then-not-is_settled+else-is_unwritten, else-not-is_settled-via-else-not-is_settled}

pub loop-t-init : goal.loop-t-init
loop-t-init c = steps-none _ _

pub returns-then-is_unwritten-clause-record : goal.returns-then-is_unwritten-clause-record
returns-then-is_unwritten-clause-record c =
    let now = c.loop-t.run in
    let i = get_or c.args.turns.now c.loop-t.t 0 in
    let told = c.is_unwritten.ensures ∙ ap is_unwritten c.step.ensures.told in
    c.step.ensures.record ∙ unwritten-stays now i (sym told ∙ c.if-is_unwritten.true)
    ∙ ap (λ (p : Played). p.run) (steps-stop _ _ now c.loop-t.t (step_of now i) _ c.loop-t.invariant c.loop-t-test.true refl told c.if-is_unwritten.true)

pub returns-then-is_unwritten-clause-made : goal.returns-then-is_unwritten-clause-made
returns-then-is_unwritten-clause-made c =
    let now = c.loop-t.run in
    let i = get_or c.args.turns.now c.loop-t.t 0 in
    let told = c.is_unwritten.ensures ∙ ap is_unwritten c.step.ensures.told in
    ap (λ (p : Played). p.at) (steps-stop _ _ now c.loop-t.t (step_of now i) _ c.loop-t.invariant c.loop-t-test.true refl told c.if-is_unwritten.true)

pub loop-t-preserved : goal.loop-t-preserved
loop-t-preserved c =
    let now = c.loop-t.run in
    let i = get_or c.args.turns.now c.loop-t.t 0 in
    let here = λ (r : Run). Steps c.args.run.now c.args.turns.now r (c.loop-t.t + 1) in
    elim c.else-not-is_settled.branch [
      | else-not-is_settled-via-then-not-is_settled+else-is_unwritten w ↦
          let told : w.is_unwritten.result ≡ is_unwritten (step_of now i).did = w.is_unwritten.ensures ∙ ap is_unwritten w.step.ensures.told in
          subst here (sym (w.run-is ∙ w.step.ensures.record))
          (steps-more _ _ now c.loop-t.t (step_of now i) _ c.loop-t.invariant c.loop-t-test.true refl told w.if-is_unwritten.false)
      | else-not-is_settled-via-else-not-is_settled w ↦
          let settled : is_settled (get_or now.rows _ (not_begun 0)).state ≡ true = sym c.is_settled.ensures ∙ w.if-not-is_settled.false in
          let rows : length now.rows ≡ 16 = omega arith in
          subst here (sym w.run-is)
          (steps-still _ _ now c.loop-t.t c.loop-t.invariant c.loop-t-test.true
          (settled-still now rows i (subst (λ (n : ℕ). is_settled (get_or now.rows n (not_begun 0)).state ≡ true) c.seat_of.ensures settled)))
    ]

pub returns-clause-record : goal.returns-clause-record
returns-clause-record c = ap (λ (p : Played). p.run) (steps_all _ _ c.loop-t.run c.loop-t.t c.loop-t.invariant c.loop-t-test.false)

pub returns-clause-made : goal.returns-clause-made
returns-clause-made c =
    let all : length c.args.turns.now ≡ c.loop-t.t = omega (arith, c.loop-t.auto.t-end) in
    all ∙ ap (λ (p : Played). p.at) (steps_all _ _ c.loop-t.run c.loop-t.t c.loop-t.invariant c.loop-t-test.false)
