-- What private functions mean. No public clause speaks of it.
pub mod Pieces
pub mod Counted
pub mod Shown
pub mod Tallied
