-- The definitions of this crate.
pub mod Expansion
pub mod Blame
pub mod Answer
pub mod Text
pub mod Inside
