-- The lemmas of this crate.
mod CharLemmas
mod ConversionLemmas
mod FieldLemmas
pub mod FrontLemmas
mod LineLemmas
mod PieceLemmas
mod RangeLemmas
mod ReadingLemmas
mod SearchLemmas
mod ShortLemmas
mod ShowLemmas
mod ShownLemmas
