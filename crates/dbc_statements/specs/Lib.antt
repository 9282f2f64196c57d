-- The definitions of this crate.
pub mod Token
pub mod Statement
pub mod Reading
pub mod Inside
