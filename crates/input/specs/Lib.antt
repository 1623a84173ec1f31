-- What the reading of an input promises.
pub mod Within
