-- The lemmas of this crate.
pub mod CellLemmas
pub mod FileLemmas
pub mod LineLemmas
pub mod OffenceLemmas
mod ReadableLemmas
mod PlaceLemmas
mod WrongLemmas
