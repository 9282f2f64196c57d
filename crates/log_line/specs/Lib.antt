-- The definitions of this crate.
pub mod Reading
pub mod View
pub mod Written
pub mod Inside
