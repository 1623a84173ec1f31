-- Laws for the proofs of this crate.
mod Counting
pub mod Handing
mod Running
pub mod SameReports
pub mod Sizes
mod Printing
