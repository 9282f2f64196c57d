-- The definitions of this crate.
pub mod Answer
pub mod Command
pub mod Inside
pub mod Logs
pub mod Orders
pub mod Run
pub mod Status
