use Rattle.plan.proofs.Stations.{station_in_range}
use Rattle.plan.proofs.line.station.Goals as goal

pub returns-clause-named : goal.returns-clause-named
returns-clause-named c = station_in_range _ _ _ _ c.number.ensures c.ok_or.ensures.value
