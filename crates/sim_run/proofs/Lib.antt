-- The lemmas of this crate.
pub mod CommandLemmas
pub mod FileLemmas
pub mod LoadedLemmas
pub mod LogLemmas
pub mod OrderLemmas
pub mod ShownLemmas
pub mod SourceLemmas
pub mod AnswerLemmas
pub mod WrittenLemmas
