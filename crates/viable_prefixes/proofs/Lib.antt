-- The lemmas of this crate.
pub mod Follows
pub mod StepFollows
pub mod ListFollows
pub mod ExpressionLess
pub mod ExpressionFollows
pub mod Ends
pub mod Stays
pub mod Wrong
pub mod Turns
pub mod First
pub mod DeclarationLess
pub mod ItemFollows
pub mod DeclarationFollows
pub mod Together
pub mod StatementFollows
pub mod HeadFollows
pub mod FileFollows
