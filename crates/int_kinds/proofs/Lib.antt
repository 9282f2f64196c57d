-- Lemmas that several proofs and crates above use.
pub mod Congruence
pub mod Operations
pub mod Wrapping
pub mod Values
