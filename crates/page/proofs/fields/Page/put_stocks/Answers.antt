use Prim.Native.Nat.{min}
use mathlib.Core.Path.{◌≡◌}
use native.Mathlib.Omega.{arith}
use Rattle.page.proofs.Listed.{no-stock, one-stock}
use Rattle.page.proofs.fields.Page.put_stocks.Goals as goal

pub loop-k-init : goal.loop-k-init
loop-k-init c = no-stock _ _ _

pub loop-k-preserved : goal.loop-k-preserved
loop-k-preserved c = one-stock _ _ _ _ _ _ _ c.loop-k.invariant c.code.ensures c.put_stock.ensures

pub returns : goal.returns
returns c = let all : c.loop-k.k ≡ min c.args.stocks.now.count 64 = omega arith in rw all at c.loop-k.invariant
