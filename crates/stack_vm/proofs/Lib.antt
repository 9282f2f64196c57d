-- Lemmas that several proofs use.
mod ArrayLemmas
pub mod ListLemmas
pub mod NumberLemmas
pub mod StackLemmas
pub mod FrameLemmas
pub mod MemoryLemmas
pub mod StepLemmas
pub mod CaseSearch
pub mod CaseLemmas
pub mod CellRows
pub mod MessageRows
pub mod OperandRows
pub mod HostRows
pub mod RowMoves
pub mod DepthLemmas
pub mod RoomLemmas
pub mod QuietRuns
pub mod RunSteps
pub mod HandlerRuns
