-- The definitions of this crate.
pub mod Name
pub mod Lowering
pub mod Prelude
pub mod Table
pub mod Inside
