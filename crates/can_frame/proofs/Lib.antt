-- Lemmas on lists of bits, payloads, and arbitration fields and keys.
pub mod BitLists
pub mod Payload
pub mod Fields
mod KeyBits
