-- Lemmas on logs and their replay.
pub mod Instants
pub mod Spacing
pub mod Sent
pub mod Alone
pub mod Replaying
pub mod Projection
pub mod Seen
pub mod SilentRuns
pub mod Entries
pub mod Reading
pub mod Scenarios
