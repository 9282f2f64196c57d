-- The lemmas of this crate.
mod Calls
mod CutCalls
mod CutExpressions
mod CutStatements
mod Cuts
mod Expressions
mod Parts
mod SameCalls
mod SameExpressions
mod SameStatements
mod Statements
