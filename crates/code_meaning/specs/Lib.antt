-- The definitions of this crate.
pub mod Ending
pub mod Example
pub mod OnHost
pub mod Statement
