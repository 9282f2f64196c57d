-- What private functions and the fields of a bus mean. No public clause speaks of it.
pub mod PlainBus
pub mod Places
pub mod Ranks
