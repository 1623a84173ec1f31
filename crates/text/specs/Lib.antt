-- What a reader must believe: the plan text, MODEL 8, as executable definitions.
pub mod Limits
pub mod Text
pub mod Number
pub mod Code
pub mod Refusal
pub mod Plan
pub mod Buffers
pub mod Alike
pub mod Sound
pub mod Worked
