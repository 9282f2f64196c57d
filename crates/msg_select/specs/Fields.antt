-- What the fields of public structs keep.
pub mod Selectors
