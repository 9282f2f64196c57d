-- Lemmas on good waits and on the timeline.
pub mod NumberLemmas
pub mod KeyLemmas
pub mod TimeLemmas
pub mod WaitLemmas
pub mod PairLemmas
pub mod FoundLemmas
pub mod FilterLemmas
pub mod BusLists
pub mod CountLemmas
pub mod IdentLemmas
pub mod TrackLemmas
pub mod LineLemmas
pub mod StartLemmas
pub mod BusiestLemmas
