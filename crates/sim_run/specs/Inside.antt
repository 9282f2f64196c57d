-- What private functions mean. No public clause speaks of it.
pub mod Answer
pub mod Loaded
pub mod Played
pub mod Sources
