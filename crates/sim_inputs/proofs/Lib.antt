-- The lemmas of this crate.
pub mod TextLemmas
pub mod KeyLemmas
pub mod OneReading
pub mod ReplayLemmas
pub mod BaseLemmas
pub mod InputsLemmas
pub mod NodeCount
pub mod NodeLemmas
