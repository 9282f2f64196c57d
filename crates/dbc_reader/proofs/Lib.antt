-- The lemmas of this crate.
pub mod Tables
pub mod SaidLemmas
pub mod OneReading
pub mod Distinct
