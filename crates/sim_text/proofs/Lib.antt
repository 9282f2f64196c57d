-- The lemmas of this crate.
mod ShownLemmas
