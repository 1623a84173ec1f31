use Rattle.report.proofs.Handing.{too_small, handed}
use Rattle.report.proofs.whole.hand_out.Goals as goal

pub returns-then-out-text : goal.returns-then-out-text
returns-then-out-text c = let o = too_small _ _ c.if-out-text.true in record { value = o.0; out_after = o.1 }

pub returns : goal.returns
returns c = let o = handed c.args.text.now _ c.if-out-text.false in record { value = o.0; out_after = rw c.copy_from_slice.ensures.after o.1 }
