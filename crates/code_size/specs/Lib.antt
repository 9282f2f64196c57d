-- The definitions of this crate.
pub mod Notes
pub mod Rows
