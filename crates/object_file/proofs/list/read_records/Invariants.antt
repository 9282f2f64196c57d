-- So many records were read as there were turns.
use Rattle.std.proofs.Common.{◌≡◌, ◌++◌, All, length}
use Rattle.std.specs.Prelude.{flat_map}
use Rattle.object_file.proofs.list.read_records.Given as goal

abbrev pub invariant-loop : goal.invariant-loop
invariant-loop g l = record {
  spelled : l.bytes ≡ flat_map g.T.Stored.spelling l.records.items ++ l.rest;
  count : length l.records.items ≡ l.counter;
  holds : All g.T.Stored.holds l.records.items;
}
