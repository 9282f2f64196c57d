-- The definitions of this crate.
pub mod Inside
pub mod Item
pub mod Part
pub mod Site
pub mod Statement
