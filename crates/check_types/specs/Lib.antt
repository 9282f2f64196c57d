-- The definitions of this crate.
pub mod Accepted
pub mod Lines
pub mod Handlers
pub mod Refusal
