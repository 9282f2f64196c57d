-- The lemmas of this crate.
pub mod By
pub mod MadeLemmas
pub mod RowLemmas
