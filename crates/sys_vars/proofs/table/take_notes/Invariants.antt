-- The notes so far stand in the places of values.
use Rattle.std.proofs.Common.{◌≡◌, length, take}
use Rattle.sys_vars.specs.Table.{noted}
use Rattle.sys_vars.proofs.table.take_notes.Given as goal

abbrev pub invariant-loop-number : goal.invariant-loop-number
invariant-loop-number l = record {
  taken : l.values.items ≡ noted l.fn.values.items (take l.number l.notes);
  count : length l.values.items ≡ length l.fn.values.items;
}
