-- What stands between two bytes.
use Rattle.std.proofs.Common.{◌≡◌, ◌++◌, take}
use Rattle.sim_text.specs.Lines.{shown_text}
use Rattle.sim_text.proofs.shown.append_each_shown.Given as goal

-- the line has the bytes that were passed, as they are shown
abbrev pub invariant-loop-byte : goal.invariant-loop-byte
invariant-loop-byte l =
    l.line.items ≡ l.initial.line.items ++ shown_text (take l.byte-index l.text)
