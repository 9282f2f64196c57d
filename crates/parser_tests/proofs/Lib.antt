-- The lemmas of this crate.
mod SourceLemmas
