-- The definitions of this crate.
pub mod Files
pub mod MemFiles
pub mod MemSink
pub mod Reader
pub mod RealFiles
pub mod Sink
pub mod Writer
