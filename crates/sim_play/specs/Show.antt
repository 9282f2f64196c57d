-- What is shown of a run, as it happens, and its summary.
use Rattle.std.specs.Prelude.{ℕ, ◌==◌, if◌then◌else◌, List, [], length, slice_get, ◌+◌, ◌/◌, ◌%◌, Bool, true, false, ◌&&◌, not, ◌++◌, Option, None, Some, codes, decimal, ◌-◌, ◌^◌, min}
use Rattle.std.specs.Option.{unwrap_or}
use Rattle.std.specs.List.{flat_map, count_by, sum_by}
use Rattle.run_records.specs.declared.record.Noted.{Noted}
use Rattle.log_line.specs.Written.{log_line}
use Rattle.sim_text.specs.Lines.{window_line, summary_line}
use Rattle.run_meaning.specs.Steps.{entries}
use Rattle.sim_play.specs.declared.labels.Labels.{Labels}
use Rattle.sim_play.specs.declared.labels.Show.{Show}
use Rattle.sim_play.specs.declared.labels.Show.TheVariants.{Window, Log, Both}
use Rattle.stack_vm.specs.declared.meter.MeterRow.{MeterRow}
use Rattle.run_records.specs.declared.record.Noted.TheVariants as entry

-- ---- The files of a node, by their names.

-- the name of a file of a node: where the node has one file alone, that one
abbrev pub file_of : List (List ℕ) → ℕ → List ℕ
file_of files file = unwrap_or (slice_get files (if length files == 1 then 0 else file)) []

-- ---- What is shown of a run, as it happens: the texts that its nodes write, the frames that left the wire,
-- or both.

-- whether the texts that nodes write are shown
abbrev pub shows_texts : Show → Bool
shows_texts Window = true
shows_texts Both = true
shows_texts _ = false

-- whether the frames that left the wire are shown
abbrev pub shows_frames : Show → Bool
shows_frames Log = true
shows_frames Both = true
shows_frames _ = false

-- the name of the node of a number
abbrev pub name_of : Labels → ℕ → List ℕ
name_of labels node = unwrap_or (slice_get labels.names node) []

-- the interface of a channel: the first, else the second
abbrev pub interface_of : Labels → ℕ → List ℕ
interface_of labels channel = if channel == 2 then labels.second else labels.interface

-- the line that an entry makes, where it is shown: that of a text, under the name of its node, or that of a
-- frame, with the seconds at the start of the measurement
abbrev pub piece : Show → Labels → Noted → Option (List ℕ)
piece show labels (entry.Line now node text) =
    if shows_texts show then Some (window_line now (name_of labels node) text) else None
piece show labels (entry.Frame now frame) =
    if shows_frames show then
    Some (log_line (labels.epoch + now / 1000000) (now % 1000000) (interface_of labels frame.can) frame)
    else None

-- what is shown of entries, in order
abbrev pub shown : Show → Labels → List Noted → List ℕ
shown show labels list = flat_map (λ noted. unwrap_or (piece show labels noted) []) list

-- what is shown before a run: how many lines of the log that is replayed were passed over, where any were
abbrev pub shown_first : Show → Labels → List ℕ
shown_first show labels =
    if shows_texts show && not (labels.skipped == 0) then
    window_line 0 (codes "replay") (codes "skipped " ++ decimal labels.skipped)
    else []

-- ---- The summary of a run: how many frames left the wire, how many lines of text there were, and how many
-- turns its event procedures took.

-- whether an entry is a frame that left the wire
abbrev pub is_frame : Noted → Bool
is_frame (entry.Line now node text) = false
is_frame (entry.Frame now frame) = true

-- whether an entry is a line of text
abbrev pub is_text : Noted → Bool
is_text (entry.Line now node text) = true
is_text (entry.Frame now frame) = false

-- a number as it stands in the summary: one above 2^64 - 1 stands as 2^64 - 1
abbrev pub capped : ℕ → ℕ
capped n = min n (2 ^ 64 - 1)

-- how many lines of text stand before those of a run: that of the lines of the log that were passed over,
-- where any were
abbrev pub first_lines : Labels → ℕ
first_lines labels = if labels.skipped == 0 then 0 else 1

-- the summary of so many nodes, of these entries and with these rows
abbrev pub summary_of : Labels → ℕ → List Noted → List MeterRow → List ℕ
summary_of labels nodes noted rows =
    summary_line nodes (capped (count_by is_frame noted))
    (capped (first_lines labels + count_by is_text noted)) (capped (sum_by (λ row. row.turns) rows))
