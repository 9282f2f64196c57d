-- Lemmas on the definitions of this crate.
pub mod By
pub mod Emitted
pub mod Fields
pub mod Nonempty
pub mod Noted
pub mod Rows
pub mod SoundExamples
pub mod SoundFields
pub mod Steps
pub mod Weighed
