-- The definitions of this crate.
pub mod Ranges
pub mod Inside
