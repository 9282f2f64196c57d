-- What was listed, and what is left behind it.
use Rattle.std.proofs.Common.{◌≡◌, ◌≤◌, ◌++◌, suc, drop, length}
use Rattle.capl_meaning.specs.Variable.{parts_of, parts_of_files}
use Rattle.check_names.specs.Part.{parts_in}
use Rattle.check_names.proofs.part.program_parts.Given as goal

abbrev pub invariant-loop-tree : goal.invariant-loop-tree
invariant-loop-tree l = record {
  file : l.file ≡ l.tree-index;
  listed : parts_in l.parts.items ++ parts_of_files l.file (drop l.tree-index l.program.files) (suc l.procedures)
      ≡ parts_of l.program;
  counted : l.procedures ≤ length l.parts.items;
}
