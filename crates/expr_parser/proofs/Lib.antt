-- The lemmas of this crate.
pub mod Rows
pub mod Lists
pub mod Starts
pub mod Complete
pub mod Steps
pub mod ListsSound
pub mod Back
pub mod Sound
pub mod Turns
