-- The lemmas of this crate.
pub mod StartLemmas
pub mod PayloadLemmas
pub mod MessageLemmas
pub mod VariableLemmas
