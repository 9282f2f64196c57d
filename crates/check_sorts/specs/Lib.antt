-- The definitions of this crate.
pub mod Constant
pub mod Expression
pub mod Form
pub mod Format
pub mod Message
pub mod Scope
