-- Lemmas on the list of a `PlainBus` and on its calls.
pub mod ListEdits
pub mod RankLemmas
pub mod RequestLemmas
pub mod ArbitrationLemmas
