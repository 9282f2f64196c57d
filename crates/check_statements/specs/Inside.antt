-- What proofs inside of this crate speak of.
pub mod Label
