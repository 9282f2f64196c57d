-- What private functions mean. No public clause speaks of it.
pub mod Codes
pub mod Messages
