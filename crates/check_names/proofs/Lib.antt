-- The lemmas of this crate.
mod CoveredLemmas
mod DeclarationLemmas
pub mod FirstLemmas
pub mod FirstOfLemmas
mod FunctionLemmas
mod GatherLemmas
mod HeadLemmas
mod InnerLemmas
mod InnerTurns
pub mod IsIn
pub mod LoopLemmas
mod NameLemmas
mod NamedFirst
pub mod NamedLemmas
mod NumberLemmas
mod PartLemmas
mod PositionLemmas
mod PurposeLemmas
mod RangeLemmas
pub mod RepeatLemmas
mod ScopeLemmas
mod TableLemmas
mod TakeLemmas
