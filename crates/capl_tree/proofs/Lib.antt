-- The lemmas of this crate.
pub mod FormLemmas
pub mod WeightLemmas
