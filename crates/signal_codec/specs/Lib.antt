-- The definitions of this crate.
pub mod Place
pub mod Signal
