-- How a box holds a type that holds it.
pub mod Boxed
