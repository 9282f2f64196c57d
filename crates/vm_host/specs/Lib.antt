-- The definitions of this crate.
pub mod Host
