-- What private functions mean. No public clause speaks of it.
pub mod Field
pub mod Crc
pub mod Stuffing
pub mod Walk
