-- What a log reads as, line by line, and the requests of a log that is replayed.
use Rattle.std.specs.Prelude.{◌≡◌, ◌+◌, ◌-◌, ◌==◌, ℕ, Bool, true, false, List, [], ◌∷◌, ◌++◌, ◌⊎◌, length, slice_index, ◌*◌, ◌^◌, max, min, not, count_by, if◌then◌else◌}
use Rattle.std.specs.List.{AllZip, flat_map}
use Rattle.text_parts.specs.Line.{text_lines}
use Rattle.log_line.specs.Reading.{Reads}
use Rattle.log_line.specs.declared.line.Line.{Line}
use Rattle.log_line.specs.declared.line.Line.TheVariants.{Skip, Entry, Empty}
use Rattle.std.specs.Str.{bytes_eq}
use Rattle.frame_bits.specs.Length.{frame_length}
use Rattle.scenario.specs.declared.scenario.Epoch.{Epoch}
use Rattle.scenario.specs.declared.scenario.Epoch.TheVariants.{At, First}
use Rattle.replay_node.specs.declared.replay.Replay.{Replay}
use Rattle.replay_node.specs.declared.replay.Request.{Request}
use Rattle.log_line.specs.declared.line.Entry as declared

-- ---- What a log reads as, line by line.

-- a line feed ends the text
abbrev pub is_ended : List ℕ → Bool
is_ended text = slice_index text (length text - 1) == 10

-- the line has no reading
abbrev pub HasNoReading : List ℕ → Type 0
HasNoReading line = (reading : Line) → Reads line reading → ⊥

-- the last line of the log has no line feed and no reading, and these are the readings of the lines before it
pub record EndsUnread (log : List ℕ) (before : List Line) : Type 0 where
  pub lines : List (List ℕ)
  pub last : List ℕ
  pub are : text_lines log ≡ lines ++ last ∷ []
  pub read : AllZip Reads lines before
  pub no_reading : HasNoReading last
  pub not_ended : is_ended log ≡ false

-- the log reads so: each of its lines, or each but an unread end, which is passed over
abbrev pub LogReads : List ℕ → List Line → Type 0
LogReads log readings =
    AllZip Reads (text_lines log) readings
    ⊎ ((before : List Line) × EndsUnread log before × (readings ≡ before ++ Skip ∷ []))

-- the line with this number, counted from 1, is the first that has no reading and is not an unread end
pub record IsBadLine (log : List ℕ) (number : ℕ) : Type 0 where
  pub lines : List (List ℕ)
  pub line : List ℕ
  pub behind : List (List ℕ)
  pub are : text_lines log ≡ lines ++ line ∷ behind
  pub number_is : number ≡ length lines + 1
  pub read : (readings : List Line) × AllZip Reads lines readings
  pub no_reading : HasNoReading line
  pub is_no_end : behind ≡ [] → is_ended log ≡ true

-- ---- The requests of a log that is replayed.

-- the entry of a line, where it is of this interface
abbrev pub entry_on : List ℕ → Line → List declared.Entry
entry_on interface (Entry entry) = if bytes_eq entry.interface interface then entry ∷ [] else []
entry_on interface _ = []

-- the entries of the interface, in order
abbrev pub entries_on : List ℕ → List Line → List declared.Entry
entries_on interface readings = flat_map (entry_on interface) readings

-- whether a line is passed over: a frame of another kind, or an entry of another interface
abbrev pub is_skipped : List ℕ → Line → Bool
is_skipped interface (Entry entry) = not (bytes_eq entry.interface interface)
is_skipped interface Skip = true
is_skipped interface Empty = false

-- how many lines are passed over
abbrev pub skipped_on : List ℕ → List Line → ℕ
skipped_on interface readings = count_by (is_skipped interface) readings

-- a second before a moment in seconds, at least 0 and at most 2^32 - 1
abbrev pub second_before : ℕ → ℕ
second_before seconds = min (seconds - 1) (2 ^ 32 - 1)

-- the epoch in seconds; the first is a second before the first entry, and 0 without one
abbrev pub epoch_seconds : Epoch → List declared.Entry → ℕ
epoch_seconds (At seconds) entries = seconds
epoch_seconds First [] = 0
epoch_seconds First (entry ∷ entries) = second_before entry.seconds

-- microseconds in a second
abbrev pub per_second : ℕ
per_second = 1000000

-- the stamp of an entry in microseconds
abbrev pub stamp_of : declared.Entry → ℕ
stamp_of entry = entry.seconds * per_second + entry.micros

-- when the frame of an entry started, in microseconds from the epoch, at least 0 and at most 2^64 - 1; a bit
-- takes this time
abbrev pub start_of : ℕ → ℕ → declared.Entry → ℕ
start_of bit epoch entry =
    min (stamp_of entry - epoch * per_second - frame_length entry.frame * bit) (2 ^ 64 - 1)

-- the requests of the entries, where the one before asked at this moment: each asks at its start, and not
-- before the one before
abbrev pub requests_from : ℕ → ℕ → ℕ → List declared.Entry → List Request
requests_from bit epoch before [] = []
requests_from bit epoch before (entry ∷ entries) =
    record { at = max before (start_of bit epoch entry); frame = entry.frame }
    ∷ requests_from bit epoch (max before (start_of bit epoch entry)) entries

-- the replay of lines that read so
pub record IsReplayOf (interface : List ℕ) (bit : ℕ) (epoch : Epoch) (readings : List Line) (replay : Replay)
    : Type 0 where
  pub epoch_is : replay.epoch ≡ epoch_seconds epoch (entries_on interface readings)
  pub skipped_is : replay.skipped ≡ skipped_on interface readings
  pub list_is : replay.list ≡ requests_from bit replay.epoch 0 (entries_on interface readings)

-- the replay of a log on an interface
abbrev pub IsReplay : List ℕ → List ℕ → ℕ → Epoch → Replay → Type 0
IsReplay log interface bit epoch replay =
    (readings : List Line) × LogReads log readings × IsReplayOf interface bit epoch readings replay
