-- The lemmas of this crate.
pub mod Chains
pub mod Starts
pub mod Forms
pub mod Known
pub mod Lengths
pub mod ReadForms
pub mod CompleteStatement
pub mod Rows
pub mod Steps
pub mod SoundStatement
pub mod CompleteFile
pub mod SoundFile
pub mod Readers
pub mod Whole
