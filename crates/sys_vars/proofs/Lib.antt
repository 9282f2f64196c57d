-- The lemmas of this crate, by what they are about.
pub mod NameLemmas
pub mod LoweringLemmas
pub mod PreludeLemmas
pub mod TableLemmas
