-- What private functions say of parts of the verifier's work.
pub mod Distinct
pub mod Failure
