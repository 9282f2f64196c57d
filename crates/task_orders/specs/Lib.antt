-- The definitions of this crate.
pub mod World
pub mod Moves
pub mod Values
