-- Lemmas on the definitions of this crate.
pub mod Effects
pub mod Following
pub mod SeenEvents
pub mod SourceCode
pub mod SoundSources
pub mod SourceRuns
pub mod Tasks
pub mod ProcedureEffects
pub mod TimerEffects
