-- The definitions of this crate.
pub mod Pair
pub mod Codes
pub mod Laws
