-- The lemmas of this crate.
mod FieldLemmas
mod LabelLemmas
mod OffenceLemmas
mod StatementLemmas
mod TurnLemmas
mod TypeLemmas
