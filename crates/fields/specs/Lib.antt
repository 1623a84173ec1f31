-- The window on the text, and the length of a code in it.
pub mod Window
pub mod Measure
