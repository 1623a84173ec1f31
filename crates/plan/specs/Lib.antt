-- What is left of a text and of a line, what a step of the reading gives, and the key of a code.
pub mod Key
pub mod Left
pub mod Outs
