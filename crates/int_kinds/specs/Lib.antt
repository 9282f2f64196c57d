-- The definitions of this crate.
pub mod Arithmetic
pub mod Congruent
pub mod Kind
