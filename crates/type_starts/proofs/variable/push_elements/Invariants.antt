-- The elements so far were put.
use Rattle.std.specs.Option.{option_copied}
use Rattle.capl_meaning.specs.Initial.{first_element}
use Rattle.capl_meaning.specs.Store.{row}
use Rattle.check_sorts.specs.Scope.{scope_in}
use Rattle.type_starts.specs.Starts.{Goes}
use Rattle.type_starts.proofs.variable.push_elements.Given as goal

abbrev pub invariant-loop-index : goal.invariant-loop-index
invariant-loop-index l =
    Goes l.fn.starts l.starts (row (first_element (scope_in l.spot.scope) l.spot.token l.kind (option_copied l.init)) 0 l.index)
