-- What the report is made of: a plan that was read.
use Rattle.std.specs.Prelude.{ℕ, ◌≤◌, ◌<◌, ◌≡◌, List, length, get_or}
use Rattle.method.specs.Demand.{Station}
use Rattle.text.specs.Limits.{most_stations, most_turns}

-- a plan that was read
pub record Ready (n : ℕ) (inputs turns : List ℕ) : Type 0 where
  pub high : n ≤ most_stations
  pub sets_long : length inputs ≡ most_stations
  pub few : length turns ≤ most_turns
  pub named : (t : ℕ) → t < length turns → Station n (get_or turns t 0)
