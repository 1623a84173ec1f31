use Rattle.std.proofs.lemmas.Iterator.Adapters.{position_from-zero}
use Rattle.text.specs.Text.{same}
use Rattle.plan.proofs.codes.Codes.stock_of.Goals as goal

pub loop-k-init : goal.loop-k-init
loop-k-init c = position_from-zero (same c.args.code.now) c.args.self.now
