-- Lemmas on the definitions of this crate.
pub mod Alone
pub mod ExpressionSizes
pub mod Expressions
pub mod Formats
pub mod Orders
pub mod ProgramSizes
pub mod Programs
pub mod Shown
pub mod SoundExpressions
pub mod Starts
pub mod StatementSizes
pub mod Statements
pub mod Tables
pub mod Units
