-- The definitions of this crate.
pub mod Failure
pub mod Inside
pub mod Laws
pub mod Machine
pub mod Refusal
pub mod Rule
pub mod Runs
pub mod Shape
pub mod Step
pub mod Tables
pub mod Verified
