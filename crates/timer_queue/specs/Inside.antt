-- What private types mean. No public clause speaks of it.
pub mod Minima
pub mod Slots
