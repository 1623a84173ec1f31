-- What the contracts of turns say beyond the method's own definitions.
pub mod Places
pub mod Moves
pub mod Step
pub mod Playing
