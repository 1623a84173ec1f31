-- Laws that the crates above cite.
pub mod Absent
pub mod Members
pub mod Spans
pub mod Digits
pub mod Subset
pub mod Blocks
