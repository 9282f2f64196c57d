-- The definitions of this crate.
pub mod Selection
pub mod Inside
pub mod Fields
