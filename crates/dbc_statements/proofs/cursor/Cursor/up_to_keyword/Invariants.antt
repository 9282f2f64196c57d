-- From here the reading is as from the beginning.
use Rattle.std.proofs.Common.{◌≡◌, ◌≤◌, true, length}
use Rattle.dbc_statements.specs.Statement as spec
use Rattle.dbc_statements.proofs.cursor.Cursor.up_to_keyword.Given as goal

abbrev pub invariant-loop-token : goal.invariant-loop-token
invariant-loop-token l = record {
  same : spec.all_up_to spec.begins_statement (λ token. true) l.fn.self ≡ spec.all_up_to spec.begins_statement (λ token. true) l.self;
  no_longer : length l.self ≤ length l.fn.self;
}

abbrev pub decreases-loop-token : goal.decreases-loop-token
decreases-loop-token l = length l.self
