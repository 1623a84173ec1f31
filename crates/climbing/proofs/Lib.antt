-- The ways out of the gathering and of the climb, one law for each.
mod Ways
