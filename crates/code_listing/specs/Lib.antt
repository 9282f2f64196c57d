-- The definitions of this crate.
pub mod Example
pub mod Exit
pub mod Expression
pub mod Listing
pub mod Place
pub mod Program
pub mod Runs
pub mod Statement
