-- Definitions that only contracts of private functions cite.
pub mod Kept
pub mod Tasks
pub mod Rounds
