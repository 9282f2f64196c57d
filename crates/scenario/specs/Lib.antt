-- The definitions of this crate.
pub mod Item
pub mod Rule
pub mod Scenario
pub mod Within
pub mod Inside
