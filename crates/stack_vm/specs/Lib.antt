-- The definitions of this crate.
pub mod Cases
pub mod Frame
pub mod Inside
pub mod Memory
pub mod Meter
pub mod Quiet
pub mod Room
pub mod Runs
