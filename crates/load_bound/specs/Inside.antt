-- What private functions say. No public clause speaks of it.
pub mod Starts
