-- Lemmas of this crate; crates above use those on timers.
mod MinimaLemmas
mod SlotLemmas
mod DueLemmas
mod QueueLemmas
pub mod TimersLemmas
