-- The definitions of this crate.
pub mod Exit
pub mod Fields
pub mod Meaning
pub mod Target
