-- The definitions of this crate.
pub mod Forms
pub mod Weight
pub mod Binding
pub mod Grammar
pub mod Place
pub mod Spelling
pub mod Placed
pub mod FileSpelling
pub mod FilePlaced
pub mod Tree
pub mod Nesting
pub mod Inside
