-- The definitions of this crate.
pub mod Frame
pub mod Inside
pub mod Codes
