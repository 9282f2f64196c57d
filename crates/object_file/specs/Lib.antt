-- The definitions of this crate.
pub mod Inside
pub mod Instruction
pub mod Number
pub mod Object
pub mod Table
