-- The definitions of this crate.
pub mod Heap
pub mod Retransmission
pub mod Inside
