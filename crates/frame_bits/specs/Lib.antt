-- The definitions of this crate.
pub mod Length
pub mod Inside
