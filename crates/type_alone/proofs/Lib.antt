-- The lemmas of this crate.
pub mod AloneLemmas
pub mod By
pub mod FormatLemmas
pub mod RoomLemmas
pub mod WriteLemmas
