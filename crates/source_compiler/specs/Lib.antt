-- The definitions of this crate.
pub mod Code
pub mod Compiled
pub mod Inside
pub mod Source
