-- What the contracts of a station's moves say beyond the method's own definitions.
pub mod Hand
