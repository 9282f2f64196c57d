-- The definitions of this crate.
pub mod Spelling
pub mod Name
pub mod Reading
pub mod Refusal
pub mod Screening
pub mod Inside
