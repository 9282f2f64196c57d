-- What the calls of an `ErrorBus` leave, and that each leaves it paced.
pub mod Calls
pub mod Paced
