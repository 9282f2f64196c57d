-- The lemmas of this crate.
mod ConstantLemmas
mod EvaluationLemmas
mod FormatLemmas
mod MeaningLemmas
mod MessageLemmas
mod NameLemmas
mod PlaceLemmas
mod SortLemmas
mod KnownLemmas
mod TableLemmas
mod UsableLemmas
