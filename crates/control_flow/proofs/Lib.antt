-- Lemmas on the definitions of this crate.
pub mod Fuel
pub mod Turns
