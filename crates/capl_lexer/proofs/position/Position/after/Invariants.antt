-- The position is between the first one and the end.
use Rattle.std.proofs.Common.{◌≤◌, ◌-◌}
use Rattle.capl_lexer.specs.Inside.Position.{IsPositionIn}
use Rattle.capl_lexer.proofs.position.Position.after.Given as goal

abbrev pub invariant-loop-ahead : goal.invariant-loop-ahead
invariant-loop-ahead l = record {
  at : IsPositionIn l.text l.position;
  within : l.position.place ≤ l.end;
}

abbrev pub decreases-loop-ahead : goal.decreases-loop-ahead
decreases-loop-ahead l = l.end - l.position.place
