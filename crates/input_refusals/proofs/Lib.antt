-- Lemmas that crates above use.
pub mod Passing
