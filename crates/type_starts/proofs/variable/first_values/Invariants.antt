-- The cells of the variables so far were put.
use Rattle.std.proofs.Common.{take}
use Rattle.std.specs.Prelude.{flat_map}
use Rattle.typed_laws.specs.Starts.{first_cells_of}
use Rattle.type_starts.specs.Starts.{Goes}
use Rattle.type_starts.proofs.variable.first_values.Given as goal

abbrev pub invariant-loop-number : goal.invariant-loop-number
invariant-loop-number l =
    Goes l.initial.starts l.starts (flat_map (first_cells_of l.names) (take l.number l.names.variables))
