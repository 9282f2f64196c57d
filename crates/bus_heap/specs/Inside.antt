-- What private functions and the fields of a bus mean. No public clause speaks of it.
pub mod Heap
pub mod HeapBus
