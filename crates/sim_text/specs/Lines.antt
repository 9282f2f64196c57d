-- The lines that the program writes besides those of its log. Their form is this project's own.
use Rattle.std.specs.Prelude.{ℕ, List, [], ◌∷◌, ◌==◌, if◌then◌else◌, codes, ◌/◌, ◌%◌, ◌++◌, decimal, Option, Some, None}
use Rattle.std.specs.List.{flat_map}
use Rattle.text_parts.specs.Number.{zero_filled}
use Rattle.stack_vm.specs.declared.meter.MeterRow.{MeterRow}
use Rattle.run_effects.specs.declared.event.Event.{Event}
use Rattle.run_effects.specs.declared.event.Event.TheVariants.{PreStart, Start, Stop, Message, Timer, Key}
use Rattle.texts.specs.declared.blame.Blame.{Blame}
use Rattle.texts.specs.declared.blame.Rule.{Rule}

-- ---- How a text stands in a line, which it does not end. The form is this project's own.

-- a line feed is shown as `\n` and a carriage return as `\r`, all else as it is
abbrev pub shown_byte : ℕ → List ℕ
shown_byte byte = if byte == 10 then codes "\\n" else (if byte == 13 then codes "\\r" else byte ∷ [])

-- a text with each byte as it is shown
abbrev pub shown_text : List ℕ → List ℕ
shown_text text = flat_map shown_byte text

-- ---- The lines of the texts that a node writes (CAPL manual, write). Their form is this project's own.

-- a moment in microseconds: the seconds without leading zeros, and six digits of microseconds
abbrev pub moment_text : ℕ → List ℕ
moment_text now = decimal (now / 1000000) ++ codes "." ++ zero_filled 6 (decimal (now % 1000000))

-- `w S.UUUUUU NODE TEXT`
abbrev pub window_line : ℕ → List ℕ → List ℕ → List ℕ
window_line now node text =
    codes "w " ++ moment_text now ++ codes " " ++ node ++ codes " " ++ shown_text text ++ codes "\n"

-- ---- The line that sums up the run of a generated scenario. Its form is this project's own.

-- `gen N frames F lines L turns T`
abbrev pub summary_line : ℕ → ℕ → ℕ → ℕ → List ℕ
summary_line count frames lines turns =
    codes "gen " ++ decimal count ++ codes " frames " ++ decimal frames ++ codes " lines " ++ decimal lines
    ++ codes " turns " ++ decimal turns ++ codes "\n"

-- ---- The line of an event procedure in a profile. Its form is this project's own; the events are those of
-- CAPL (CAPL manual, event procedures).

-- the word that the procedure has behind `on`, without what it selects
abbrev pub event_word : Event → List ℕ
event_word PreStart = codes "preStart"
event_word Start = codes "start"
event_word Stop = codes "stopMeasurement"
event_word (Message selectors) = codes "message"
event_word (Timer timer) = codes "timer"
event_word (Key key) = codes "key"

-- `p NODE FILE:LINE EVENT RUNS TURNS`, with FILE as it is shown
abbrev pub profile_line : List ℕ → List ℕ → ℕ → Event → MeterRow → List ℕ
profile_line node file line event row =
    codes "p " ++ node ++ codes " " ++ shown_text file ++ codes ":" ++ decimal line ++ codes " "
    ++ event_word event ++ codes " " ++ decimal row.runs ++ codes " " ++ decimal row.turns ++ codes "\n"

-- ---- The line that says which rule an input breaks, and where. Its form is this project's own.

-- `:` and the number of a line or a column, where there is one
abbrev pub place_text : Option ℕ → List ℕ
place_text None = []
place_text (Some number) = codes ":" ++ decimal number

-- the letter of the rule's group, and the rule's number in two digits
abbrev pub rule_text : Rule → List ℕ
rule_text rule = rule.group ∷ zero_filled 2 (decimal rule.number)

-- `refused FILE RULE`, with FILE as it is shown, and the line and the column behind it where the blame has
-- them
abbrev pub blame_line : Blame → List ℕ
blame_line blame =
    codes "refused " ++ shown_text blame.file ++ place_text blame.line ++ place_text blame.column ++ codes " "
    ++ rule_text blame.rule ++ codes "\n"
