-- The definitions of this crate.
pub mod Effects
pub mod Follows
pub mod Procedures
pub mod Reaction
pub mod Round
