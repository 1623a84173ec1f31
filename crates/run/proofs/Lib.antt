-- Laws for the proofs of this crate.
mod Little
pub mod Agree
pub mod Demands
