-- How the types of this crate hold a type that holds them.
pub mod Items
pub mod boxed
