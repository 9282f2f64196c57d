-- The definitions of this crate.
pub mod Agreement
pub mod Laid
pub mod Starts
pub mod Seen
