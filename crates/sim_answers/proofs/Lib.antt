-- The lemmas of this crate.
pub mod Sources
pub mod Inputs
pub mod Commands
pub mod Answers
