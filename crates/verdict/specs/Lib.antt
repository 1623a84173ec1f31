-- What comes of a run call before its first turn: MODEL 7.
pub mod Refusals
