-- Lemmas of this crate.
mod ActiveTimers
mod CodeEffects
mod DueTimers
pub mod EachTask
mod HostRuns
mod MessageChoices
mod NodeTasks
mod Plans
mod ProcedureTables
mod SameMachine
pub mod SentFrames
mod TaskEffects
