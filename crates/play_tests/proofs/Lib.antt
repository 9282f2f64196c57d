-- Lemmas of the tests.
pub mod FileLists
