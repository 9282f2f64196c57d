-- The definitions of this crate.
pub mod Operators
pub mod Reading
pub mod Expression
pub mod Laws
