-- Lemmas that several proofs and crates above use.
pub mod Payloads
pub mod Places
pub mod GetLemmas
pub mod Values
pub mod Words
pub mod PutLemmas
