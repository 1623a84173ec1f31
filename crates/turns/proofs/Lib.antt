-- Laws for the proofs of this crate.
mod Placing
mod Record
mod Holding
mod Stepping
pub mod Orders
