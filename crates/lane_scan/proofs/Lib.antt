-- Lemmas on vectors, on places, and on digits.
pub mod LaneLemmas
pub mod HexLemmas
