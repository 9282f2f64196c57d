-- Definitions that only contracts of private functions cite.
pub mod Index
pub mod Runs
pub mod State
pub mod Step
