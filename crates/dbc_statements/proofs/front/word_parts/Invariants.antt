-- The bytes before the place are parts of a word.
use Rattle.std.proofs.Common.{◌≡◌, ◌+◌, drop}
use Rattle.std.specs.List.{prefix_len}
use Rattle.dbc_statements.specs.Token as spec
use Rattle.dbc_statements.proofs.front.word_parts.Given as goal

abbrev pub invariant-loop-place : goal.invariant-loop-place
invariant-loop-place l = prefix_len spec.is_word_part l.text ≡ l.place + prefix_len spec.is_word_part (drop l.place l.text)
