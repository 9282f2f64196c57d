-- Where an input is to blame: a line of a file.
use Rattle.std.specs.Prelude.{ℕ, List, Some, None}
use Rattle.texts.specs.declared.blame.Blame.{Blame}
use Rattle.texts.specs.declared.blame.Rule.{Rule}

-- a line of a file is to blame
abbrev pub line_blame : List ℕ → ℕ → Rule → Blame
line_blame name line rule = record { file = name; line = Some line; column = None; rule = rule }
