-- The answer's bytes: MODEL 7.
pub mod Bytes
pub mod Answer
