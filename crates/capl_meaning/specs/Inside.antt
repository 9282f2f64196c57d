-- Words of proofs for parts of the definitions.
pub mod Names
pub mod Expression
pub mod Statement
pub mod Procedure
