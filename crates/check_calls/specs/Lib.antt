-- The definitions of this crate.
pub mod Callees
pub mod Calls
pub mod Components
pub mod Graph
pub mod Inside
