-- From the runs of statements to those of programs.
pub mod EffectRuns
pub mod EndsAllowed
pub mod HostRuns
pub mod LeavingOff
pub mod LoopRuns
pub mod ProcedureRuns
pub mod ProgramRuns
pub mod StatementRuns
pub mod SwitchRuns
