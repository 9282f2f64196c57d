-- The line behind the bytes so far.
use Rattle.std.proofs.Common.{◌≡◌, ◌+◌, ◌≤◌, take}
use Rattle.std.specs.List.{fold}
use Rattle.dbc_statements.specs.Token as spec
use Rattle.dbc_statements.proofs.cursor.line_behind.Given as goal

abbrev pub invariant-loop-byte : goal.invariant-loop-byte
invariant-loop-byte l = record {
  line : l.line ≡ fold spec.line_behind l.initial.line (take l.byte-index l.text);
  within : l.line ≤ l.initial.line + l.byte-index;
}
