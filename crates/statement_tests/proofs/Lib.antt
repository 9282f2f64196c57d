-- The lemmas of this crate.
mod AloneLemmas
