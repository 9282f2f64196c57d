-- The definitions of this crate.
pub mod Line
pub mod Code
pub mod Reading
pub mod Inside
