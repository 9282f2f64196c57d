-- Lemmas on the definitions of this crate.
pub mod By
pub mod Rows
pub mod StatementRows
pub mod IdleCode
pub mod Loops
pub mod Neighbours
