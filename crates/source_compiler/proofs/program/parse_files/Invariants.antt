-- What stands between two files.
use Rattle.std.proofs.Common.{take}
use Rattle.std.specs.List.{AllZip}
use Rattle.source_compiler.specs.Source.{HasTree}
use Rattle.source_compiler.proofs.program.parse_files.Given as goal

-- the trees are those of the files that were passed
abbrev pub invariant-loop-file : goal.invariant-loop-file
invariant-loop-file l = AllZip HasTree (take l.file-index l.files) l.trees.items
