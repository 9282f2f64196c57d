-- The weight is that of what was met so far.
use Rattle.std.proofs.Common.{◌≡◌, take}
use Rattle.std.specs.List.{sum_by}
use Rattle.capl_tree.specs.Weight.{saturated, top_item_weight}
use Rattle.capl_tree.proofs.weight.file_weight.Given as goal

abbrev pub invariant-loop-item : goal.invariant-loop-item
invariant-loop-item l = l.weight ≡ saturated (sum_by top_item_weight (take l.item-index l.file.items))
