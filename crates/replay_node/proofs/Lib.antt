-- The lemmas of this crate.
pub mod ProgressLemmas
pub mod LogLemmas
pub mod TakenLemmas
pub mod OneReplay
pub mod RequestLemmas
