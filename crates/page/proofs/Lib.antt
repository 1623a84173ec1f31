-- Laws for the proofs of this crate.
pub mod Numerals
pub mod Sizes
pub mod Laying
mod Listed
