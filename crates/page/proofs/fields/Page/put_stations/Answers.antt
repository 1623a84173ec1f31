use mathlib.Core.Path.{◌≡◌}
use native.Mathlib.Omega.{arith}
use lib.ListN.{length, length-take}
use Rattle.method.specs.Board.{not_begun}
use Rattle.page.proofs.Listed.{no-station, one-station, all-stations}
use Rattle.page.proofs.fields.Page.put_stations.Goals as goal

pub loop-i-init : goal.loop-i-init
loop-i-init c = no-station _ _

pub loop-i-preserved : goal.loop-i-preserved
loop-i-preserved c = one-station _ _ _ _ _ _ (not_begun 0) c.loop-i-test.true c.loop-i.invariant c.put_station.ensures.text c.put_station.ensures.upper_bound

pub returns : goal.returns
returns c =
    let rows = c.args.rows.now in
    let long : length rows ≡ 16 = omega arith in
    let few = length-take c.min.result rows in
    let all = all-stations rows _ _ _ c.args.n long (omega arith) c.loop-i.invariant in
    record { text = all.0; upper_bound = all.1 }
