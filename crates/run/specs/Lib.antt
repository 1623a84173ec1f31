-- The run call: MODEL 7.
pub mod Inputs
pub mod Call
