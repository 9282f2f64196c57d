-- What private functions cite.
pub mod Declared
pub mod Found
