-- Lemmas of this crate; crates above use them.
pub mod DueTimers
pub mod DueTasks
pub mod UpTo
pub mod Occurring
pub mod EachPart
pub mod RunParts
pub mod EachRun
pub mod OrderLemmas
pub mod RunsFollow
pub mod Once
pub mod OneRun
pub mod Meters
pub mod DoneLemmas
pub mod Counts
