-- The definitions of this crate.
pub mod Core
pub mod Orders
pub mod Inside
pub mod Result
