-- Lemmas on the definitions of this crate.
pub mod By
pub mod Emitted
pub mod Fields
pub mod Listings
pub mod Meaning
pub mod Rows
