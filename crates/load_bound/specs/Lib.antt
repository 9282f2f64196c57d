-- The definitions of this crate.
pub mod Streams
pub mod Waits
pub mod Timeline
pub mod Kept
pub mod Written
pub mod Inside
