-- From a plan's text to the printed text.
pub mod Printed
pub mod Ready
