-- The definitions of this crate.
pub mod Fault
pub mod Inside
pub mod Rule
