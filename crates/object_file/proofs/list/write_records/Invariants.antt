-- The records that were passed are written.
use Rattle.std.proofs.Common.{◌≡◌, ◌++◌, take}
use Rattle.std.specs.Prelude.{flat_map}
use Rattle.object_file.proofs.list.write_records.Given as goal

abbrev pub invariant-loop-record : goal.invariant-loop-record
invariant-loop-record g l =
    l.into.items ≡ l.initial.into.items ++ flat_map g.T.Stored.spelling (take l.record-index l.records)
