-- The definitions of this crate.
pub mod Waiting
pub mod Bus
pub mod Meaning
pub mod Ranks
pub mod Codes
pub mod Laws
