-- The definitions of this crate.
pub mod Layout
pub mod Made
