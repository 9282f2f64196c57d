-- The definitions of this crate.
pub mod Run
pub mod Moments
pub mod Rest
pub mod Steps
pub mod Counts
pub mod Done
pub mod Live
