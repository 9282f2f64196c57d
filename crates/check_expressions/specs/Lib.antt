-- The definitions of this crate.
pub mod Arguments
pub mod Judged
