-- The limits, sets of stations and of stocks, and the arrays of a level.
pub mod Limits
pub mod Placed
pub mod Mask
pub mod Arrays
pub mod Absent
