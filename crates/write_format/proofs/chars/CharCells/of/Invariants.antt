-- The counts of the cells that were passed.
use Rattle.std.proofs.Common.{◌≡◌, take}
use Rattle.std.specs.Prelude.{count_by}
use Rattle.write_format.specs.Inside.Chars.{CountsOthers, is_other}
use Rattle.write_format.proofs.chars.CharCells.of.Given as goal

abbrev pub invariant-loop-kind : goal.invariant-loop-kind
invariant-loop-kind l =
    (l.count ≡ count_by is_other (take l.kind-index l.kinds)) × CountsOthers l.kinds l.kind-index l.others.items
