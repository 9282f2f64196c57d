-- Lemmas of this crate; crates above use those on reactions that follow one another.
pub mod FollowLemmas
pub mod IdleRunner
pub mod MovingTimers
