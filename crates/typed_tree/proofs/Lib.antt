-- Lemmas on the definitions of this crate.
pub mod Boxes
pub mod FuelEnough
pub mod TurnsLeft
