-- Lemmas of this crate.
pub mod ChoiceLemmas
pub mod RunLemmas
