-- What private functions answer. No public clause speaks of it.
pub mod Ranges
