-- What was listed, and what is left behind it.
use Rattle.std.proofs.Common.{◌≡◌, ◌≤◌, ◌++◌, ℕ, suc, List, drop, length}
use Rattle.capl_meaning.specs.Variable.{Part, parts_of_items}
use Rattle.check_names.specs.Part.{parts_in}
use Rattle.check_names.proofs.part.list_items.Given as goal

abbrev pub invariant-loop-item : goal.invariant-loop-item
invariant-loop-item l = record {
  listed : (others : ℕ → List Part) →
      parts_in l.into.items ++ parts_of_items l.file (drop l.item-index l.items) (suc l.procedures) others
      ≡ parts_in l.fn.into.items ++ parts_of_items l.file l.items (suc l.fn.procedures) others;
  counted : l.procedures ≤ length l.into.items;
}
