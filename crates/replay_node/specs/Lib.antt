-- The definitions of this crate.
pub mod Replay
pub mod Refusal
pub mod Spaced
pub mod Inside
