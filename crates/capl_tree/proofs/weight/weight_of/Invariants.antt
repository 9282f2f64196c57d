-- The weight is that of what was met so far.
use Rattle.std.proofs.Common.{◌≡◌, take}
use Rattle.std.specs.List.{sum_by}
use Rattle.capl_tree.specs.Weight.{saturated, file_weight}
use Rattle.capl_tree.proofs.weight.weight_of.Given as goal

abbrev pub invariant-loop-file : goal.invariant-loop-file
invariant-loop-file l = l.weight ≡ saturated (sum_by file_weight (take l.file-index l.program.files))
