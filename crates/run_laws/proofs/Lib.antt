-- Lemmas on the definitions of this crate.
pub mod FirstNodes
pub mod Loaded
