-- Lemmas on the definitions of this crate.
pub mod By
pub mod Endings
pub mod Noted
pub mod Notes
pub mod Rows
pub mod Steps
