-- The definitions of this crate.
pub mod Errors
pub mod Codes
pub mod Laws
