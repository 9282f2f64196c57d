-- The lemmas of this crate.
mod ChoiceLemmas
mod InterfaceLemmas
mod NextLineLemmas
mod SaidLemmas
mod ReadLemmas
pub mod WithinLemmas
