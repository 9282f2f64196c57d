-- The lemmas of this crate.
mod FindLemmas
mod SplitLemmas
mod WordLemmas
mod SignLemmas
mod ItemLemmas
mod NumberLemmas
mod DirectiveLemmas
mod ByteClassLemmas
pub mod SpellingLemmas
mod NameLemmas
pub mod NameTests
mod FrontLemmas
mod NumberFronts
mod SignFronts
mod QuotedFronts
mod DirectiveFronts
mod CommentLemmas
pub mod ReadingLemmas
mod PartialReadingLemmas
mod CommentFronts
mod StepLemmas
mod LineLemmas
mod ItemFronts
mod ScreeningLemmas
