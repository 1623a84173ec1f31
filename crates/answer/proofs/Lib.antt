-- Laws for the proofs of this crate.
pub mod Laid
pub mod Little
pub mod Showing
