-- What this crate's own functions are proved by; no contract of a public function rests on it.
pub mod Kept
