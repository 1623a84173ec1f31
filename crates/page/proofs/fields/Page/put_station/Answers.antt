use native.Mathlib.Omega.{arith}
use Rattle.page.proofs.Sizes.{station_most}
use Rattle.page.proofs.Listed.{station_put}
use borrow.Author.Rules.{rules}
use Rattle.page.proofs.fields.Page.put_station.Goals as goal

pub returns-clause-text : goal.returns-clause-text
returns-clause-text c = search (station_put, rules)

pub returns-clause-upper_bound : goal.returns-clause-upper_bound
returns-clause-upper_bound c = station_most _ _ (omega arith) (omega arith)
