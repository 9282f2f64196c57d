-- The definitions of this crate.
pub mod Identifier
pub mod Message
pub mod Payload
pub mod Starts
