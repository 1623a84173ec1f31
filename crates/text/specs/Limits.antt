-- The limits of a plan, passed on from the crate that names them.
pub use Rattle.sets.specs.Limits.{most_bytes, most_stations, most_stocks, most_turns, most_code}
