-- From here the reading is as from the beginning.
use Rattle.std.proofs.Common.{◌≡◌, ◌≤◌, length}
use Rattle.dbc_statements.specs.Statement as spec
use Rattle.dbc_statements.specs.declared.receivers.Before.TheVariants as before
use Rattle.dbc_statements.proofs.receivers.receivers.Given as goal

abbrev pub invariant-loop-token : goal.invariant-loop-token
invariant-loop-token l = record {
  same : spec.receivers before.Nothing l.fn.cursor ≡ spec.receivers l.last l.cursor;
  no_longer : length l.cursor ≤ length l.fn.cursor;
}

abbrev pub decreases-loop-token : goal.decreases-loop-token
decreases-loop-token l = length l.cursor
