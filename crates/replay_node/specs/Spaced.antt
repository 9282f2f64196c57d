-- Logs whose frames can follow one another on a bus (ISO 11898-1, interframe space).
use Rattle.std.specs.Prelude.{◌≡◌, ◌+◌, ◌*◌, ◌≤◌, ℕ, List, [], ◌∷◌, All, ⊤}
use Rattle.std.specs.List.{flat_map}
use Rattle.frame_bits.specs.Length.{frame_length}
use Rattle.log_line.specs.Written.{IsLoggable, log_line}
use Rattle.log_line.specs.declared.line.Entry.{Entry}
use Rattle.replay_node.specs.Replay.{per_second, stamp_of}

-- the first frame starts at this moment or later, each further one at least three bits after the end before
-- it, and each ends at the last moment or before; moments are microseconds, and the stamp is the end
abbrev pub IsSpaced : ℕ → ℕ → ℕ → List Entry → Type 0
IsSpaced bit last from [] = ⊤
IsSpaced bit last from (entry ∷ entries) =
    (from + frame_length entry.frame * bit ≤ stamp_of entry) × (stamp_of entry ≤ last)
    × IsSpaced bit last (stamp_of entry + 3 * bit) entries

-- the lines of entries
abbrev pub lines_written : List Entry → List ℕ
lines_written entries =
    flat_map (λ entry. log_line entry.seconds entry.micros entry.interface entry.frame) entries

-- a log that a bus can have had: the lines of frames of this interface that a line can carry, spaced from the
-- epoch in seconds to the end moment in microseconds after it
pub record IsSpacedLog (interface : List ℕ) (bit epoch until : ℕ) (log : List ℕ) : Type 0 where
  pub entries : List Entry
  pub are : log ≡ lines_written entries
  pub on_interface : All (λ entry. entry.interface ≡ interface) entries
  pub micros : All (λ entry. entry.micros + 1 ≤ per_second) entries
  pub loggable : All (λ entry. IsLoggable entry.frame) entries
  pub spaced : IsSpaced bit (epoch * per_second + until) (epoch * per_second) entries
