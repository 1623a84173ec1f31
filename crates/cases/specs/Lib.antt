-- The worked cases: MODEL 11.
pub mod Table
