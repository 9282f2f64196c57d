-- What this crate's own functions are proved by; no contract of a public function rests on it.
pub mod ByteClass
pub mod Base
pub mod Front
pub mod Directive
pub mod Item
pub mod Step
pub mod Position
pub mod Screening
pub mod Words
