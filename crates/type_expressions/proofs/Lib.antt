-- The lemmas of this crate.
pub mod By
pub mod LayoutLemmas
pub mod StepLemmas
pub mod CallLemmas
pub mod WalkLemmas
