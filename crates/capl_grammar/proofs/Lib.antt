-- The lemmas of this crate: what the pieces of each part say is the part where it is spelled in place.
pub mod Same
pub mod SameExpression
pub mod SameDeclaration
pub mod SameStatement
pub mod SameFile
