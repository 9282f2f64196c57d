-- No string is closed before the place.
use Rattle.std.proofs.Common.{◌≡◌, ◌+◌, drop}
use Rattle.std.specs.Option.{option_map}
use Rattle.dbc_statements.specs.Token.{closing}
use Rattle.dbc_statements.proofs.front.closing.Given as goal

abbrev pub invariant-loop-place : goal.invariant-loop-place
invariant-loop-place l = closing 34 l.text ≡ option_map (λ n. n + l.place) (closing l.before (drop l.place l.text))
