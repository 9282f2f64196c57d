-- The lemmas of this crate.
pub mod Known
pub mod Spellings
pub mod Lexing
pub mod Sorting
pub mod Scenarios
pub mod Databases
pub mod Logs
pub mod Screens
pub mod Trees
pub mod Offences
pub mod Expansions
