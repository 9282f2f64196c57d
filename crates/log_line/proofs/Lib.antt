-- The lemmas of this crate.
mod ByteTables
pub mod BytesLemmas
pub mod DataLemmas
pub mod FieldLemmas
pub mod FrameFieldLemmas
pub mod LoggableLemmas
pub mod NumberBounds
mod NumeralLemmas
pub mod OneReading
pub mod PieceLemmas
mod PlainBytes
pub mod ReadingLemmas
pub mod SplitLemmas
pub mod StampLemmas
pub mod WrittenLemmas
