-- Lemmas of this crate.
pub mod FormLemmas
pub mod NotedLemmas
