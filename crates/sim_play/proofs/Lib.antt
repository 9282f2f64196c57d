-- Lemmas of this crate.
mod CodeStays
mod Grows
mod NodeLines
mod PlayLemmas
mod ProfileLemmas
pub mod RowLemmas
mod ShowLemmas
mod SummaryLemmas
