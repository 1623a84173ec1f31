-- The ways out of each definition of a station's steps, one law for each.
mod Ways
