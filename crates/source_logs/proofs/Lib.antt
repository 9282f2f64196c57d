-- Lemmas on what sources ask for.
pub mod EachTask
pub mod Programs
pub mod SourceTasks
