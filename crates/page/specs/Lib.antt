-- What gangrun prints, line by line: MODEL 9.
pub mod Digits
pub mod Lines
pub mod Page
