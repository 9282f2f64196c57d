-- The rules that the files of a program may break, and their places.
use Rattle.std.specs.Prelude.{ℕ, List, Some, None}
use Rattle.texts.specs.declared.blame.Blame.{Blame}
use Rattle.texts.specs.declared.blame.Rule.{Rule}

-- a file has more bytes than a file may
abbrev pub too_long_rule : Rule
too_long_rule = record { group = 70; number = 2 }

-- a whole file is to blame
abbrev pub file_blame : List ℕ → Rule → Blame
file_blame name rule = record { file = name; line = None; column = None; rule = rule }

-- a place of a file is to blame
abbrev pub place_blame : List ℕ → ℕ → ℕ → Rule → Blame
place_blame name line column rule =
    record { file = name; line = Some line; column = Some column; rule = rule }
