-- The definitions of this crate.
pub mod Code
pub mod Reaction
pub mod Ends
pub mod Stands
pub mod Sound
