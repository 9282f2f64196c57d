-- The definitions of this crate.
pub mod Database
pub mod Inside
