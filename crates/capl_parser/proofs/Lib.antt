-- The lemmas of this crate.
pub mod Ends
pub mod Whole
