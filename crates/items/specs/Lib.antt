-- The definitions of this crate.
pub mod Search
pub mod formers
