-- Rules by the letter of their group.
use Rattle.std.specs.Prelude.{ℕ}
use Rattle.texts.specs.declared.blame.Rule.{Rule}

-- a rule on sources: its letter is E
abbrev pub source_rule : ℕ → Rule
source_rule number = record { group = 69; number = number }
