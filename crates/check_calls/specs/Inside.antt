-- What proofs inside of this crate speak of.
pub mod Added
pub mod Marks
pub mod Order
pub mod Search
pub mod Walk
