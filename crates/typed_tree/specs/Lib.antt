-- The definitions of this crate.
pub mod Expression
pub mod Forms
pub mod Memory
pub mod Program
pub mod Shape
pub mod Size
pub mod Sound
pub mod SoundExpression
pub mod SoundStatement
pub mod Statement
