-- The functions and formats are those of the order so far.
use Rattle.std.proofs.Common.{◌≡◌, ◌++◌, length, take}
use Rattle.type_alone.specs.Tables.{order_of}
use Rattle.typed_source.specs.Program.{formats_of_functions, functions_of}
use Rattle.check_types.proofs.functions.make_functions.Given as goal

abbrev pub invariant-loop-at : goal.invariant-loop-at
invariant-loop-at l = record {
  trees : l.trees.items
      ≡ functions_of l.names (order_of l.tables) (length l.fn.formats.items) (take l.at (order_of l.tables));
  formats : l.formats.items ≡ l.fn.formats.items ++ formats_of_functions l.names (take l.at (order_of l.tables));
}
