-- Lemmas on what runs begin with.
pub mod NewBus
pub mod NewRows
