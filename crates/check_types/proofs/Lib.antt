-- The lemmas of this crate.
mod CheckLemmas
mod IdentifierLemmas
mod MadeLemmas
mod NameLemmas
mod RoomLemmas
