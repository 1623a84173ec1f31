-- Demand 3, proved of the definitions: the statements are in Demand3.
pub mod Depth
pub mod Brought
pub mod Potential
pub mod Rows
pub mod Readings
pub mod Gathering
pub mod Moves
pub mod Parts
pub mod Turns
pub mod Moments
pub mod Counts
pub mod Agreement
pub mod Demand3
pub mod Firsts
