-- The definitions of this crate.
pub mod Around
pub mod Rows
pub mod Tables
