-- The definitions of this crate.
pub mod Code
pub mod Inside
pub mod Node
pub mod Sound
