-- The bytes before the place are blanks.
use Rattle.std.proofs.Common.{◌≡◌, ◌+◌, drop}
use Rattle.std.specs.List.{prefix_len}
use Rattle.dbc_statements.specs.Token as spec
use Rattle.dbc_statements.proofs.front.blanks.Given as goal

abbrev pub invariant-loop-place : goal.invariant-loop-place
invariant-loop-place l = prefix_len spec.is_blank l.text ≡ l.place + prefix_len spec.is_blank (drop l.place l.text)
