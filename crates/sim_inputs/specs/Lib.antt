-- The definitions of this crate.
pub mod Accepted
pub mod Answer
pub mod Inside
pub mod Law
