-- The definitions of this crate.
pub mod Declaration
pub mod Laws
