-- The definitions of this crate.
pub mod Small
pub mod Given
