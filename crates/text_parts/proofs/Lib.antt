-- The lemmas of this crate.
pub mod DigitLemmas
pub mod HexadecimalLemmas
pub mod NumberLemmas
pub mod NumeralLemmas
mod LineLemmas
