use Rattle.std.proofs.Common.{ap, arith}
use Rattle.text.specs.Refusal.{returned}
use Rattle.text.proofs.Answers.{returned-most}
use Rattle.gang.proofs.plan_call.gang_read_plan.Goals as goal

-- it is what is returned, and that is no large number
pub overflow_cast-place : goal.overflow_cast-place
overflow_cast-place c = omega (arith, ap returned c.in-Err.ensures.answer, returned-most c.args.text.now)
