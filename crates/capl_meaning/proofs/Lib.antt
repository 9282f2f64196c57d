-- The lemmas of this crate.
mod FirstOffence
