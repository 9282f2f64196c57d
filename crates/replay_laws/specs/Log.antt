-- The log of a run (candump -L): a line for each frame that ended, in order.
use Rattle.std.specs.Prelude.{ℕ, ◌+◌, ◌/◌, ◌%◌, List, []}
use Rattle.std.specs.List.{flat_map}
use Rattle.run_records.specs.declared.record.Noted.{Noted}
use Rattle.run_records.specs.declared.record.Noted.TheVariants as entry
use Rattle.log_line.specs.Written.{log_line}
use Rattle.replay_node.specs.Replay.{per_second}

-- The line of a frame that ended at a moment, where channels have these interfaces and the measurement began
-- at this second. A text that a node wrote has none.
abbrev pub line_of : (ℕ → List ℕ) → ℕ → Noted → List ℕ
line_of interface epoch (entry.Line now node text) = []
line_of interface epoch (entry.Frame now frame) =
    log_line (epoch + now / per_second) (now % per_second) (interface frame.can) frame

-- the lines of what a run left in a record
abbrev pub log_of : (ℕ → List ℕ) → ℕ → List Noted → List ℕ
log_of interface epoch list = flat_map (line_of interface epoch) list
