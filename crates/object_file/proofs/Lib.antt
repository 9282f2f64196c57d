-- The lemmas of this crate.
pub mod FormatLemmas
pub mod InstructionLemmas
pub mod Lengths
pub mod ObjectLemmas
pub mod Pairs
pub mod TableLemmas
pub mod VerifiedLemmas
