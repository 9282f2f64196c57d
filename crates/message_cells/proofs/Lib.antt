-- The proofs of this crate.
pub mod KindLists
pub mod MessageLemmas
pub mod Identifiers
