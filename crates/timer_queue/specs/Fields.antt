-- What contracts see of the fields of private and public structs, and what these keep.
pub mod Slots
pub mod TimerQueue
