-- The definitions of this crate.
pub mod Control
pub mod Turns
pub mod World
