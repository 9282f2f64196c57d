-- The definitions of this crate.
pub mod Nodes
pub mod Sources
