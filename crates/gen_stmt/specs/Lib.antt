-- The definitions of this crate.
pub mod Cells
pub mod Example
pub mod Inside
