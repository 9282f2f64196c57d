-- The definitions of this crate.
pub mod Timers
pub mod Inside
pub mod Fields
