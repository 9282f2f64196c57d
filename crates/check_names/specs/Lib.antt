-- The definitions of this crate.
pub mod Few
pub mod First
pub mod Function
pub mod Inside
pub mod Named
pub mod Names
pub mod Part
pub mod Repeat
pub mod Selector
pub mod Variable
