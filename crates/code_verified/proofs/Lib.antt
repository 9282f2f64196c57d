-- Lemmas on the rules of the verifier.
pub mod CallCodes
pub mod Choices
pub mod Codes
pub mod Expressions
pub mod Instructions
pub mod Jumps
pub mod PlaceCodes
pub mod Places
pub mod Procedures
pub mod Programs
pub mod StatementParts
pub mod Statements
pub mod Tables
