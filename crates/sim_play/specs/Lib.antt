-- The definitions of this crate.
pub mod Out
pub mod Show
pub mod Profile
pub mod Play
pub mod Inside
