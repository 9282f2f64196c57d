-- Lemmas of this crate.
pub mod Lefts
pub mod Worlds
pub mod Neighbours
pub mod ByPicks
pub mod FoundPicks
pub mod SameSteps
pub mod Ends
pub mod Rows
