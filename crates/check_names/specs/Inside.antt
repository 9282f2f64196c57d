-- What proofs inside of this crate speak of.
pub mod Covered
pub mod Hash
pub mod Inner
pub mod Purpose
pub mod Ranges
pub mod Table
