-- A sink that is kept in memory.
use Rattle.std.specs.Prelude.{◌≡◌, ℕ, List, ◌==◌, ◌++◌, take, Option, IsSomeAnd}
use Rattle.std.specs.Map.{lookup}
use Rattle.texts.specs.Fault.{raised}

-- the bytes written, the calls that fail and how much each keeps, the next call's number, and how many failed
pub record SinkInMemory : Type 0 where
  pub written : List ℕ
  pub failing : List (ℕ × ℕ)
  pub next_call : ℕ
  pub faults : ℕ

-- how much a call keeps, where it fails
abbrev pub kept_at : SinkInMemory → ℕ → Option ℕ
kept_at sink call = lookup (λ number. number == call) sink.failing

-- a call that fails keeps so much of its piece, and one more call has failed
pub record KeepsAtFault (old new : SinkInMemory) (piece : List ℕ) : Type 0 where
  pub kept : IsSomeAnd (kept_at old old.next_call) (λ kept. new.written ≡ old.written ++ take kept piece)
  pub counted : new.faults ≡ raised old.faults
