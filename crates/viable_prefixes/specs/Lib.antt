-- The definitions of this crate.
pub mod Prefix
pub mod Inside
