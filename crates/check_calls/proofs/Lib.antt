-- The lemmas of this crate.
mod CalleeLemmas
mod ComponentLemmas
mod CountLemmas
mod FormLemmas
pub mod GoodOrderLemmas
mod GraphLemmas
mod OrderLemmas
pub mod PlaceLemmas
pub mod ReachLemmas
mod RowLemmas
mod SearchLemmas
mod WalkLemmas
