-- The definitions of this crate.
pub mod Expression
pub mod Program
pub mod Sound
pub mod Statement
