-- What the fields of a bus mean. No public clause speaks of it.
pub mod PairBus
