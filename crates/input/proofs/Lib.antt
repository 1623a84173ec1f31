-- Laws for the proofs of this crate, and of those that call it.
mod Filling
pub mod Taking
