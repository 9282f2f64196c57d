-- Lemmas on heaps of requests, on their sets, and on the calls of a `HeapBus`.
pub mod HeapLemmas
pub mod SetLemmas
pub mod ArbitrationLemmas
pub mod RequestLemmas
pub mod OnBus
pub mod Dropped
