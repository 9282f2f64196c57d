-- The definitions of this crate.
pub mod Expression
pub mod File
