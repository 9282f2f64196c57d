-- The definitions of this crate.
pub mod Statement
pub mod File
