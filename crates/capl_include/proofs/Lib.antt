-- The lemmas of this crate.
mod VisitLemmas
mod StepLemmas
pub mod UniqueLemmas
mod AnswerLemmas
mod OnceLemmas
