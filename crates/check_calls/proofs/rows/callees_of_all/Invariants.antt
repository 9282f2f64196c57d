-- The rows are those of the functions so far.
use Rattle.std.proofs.Common.{◌≡◌, take}
use Rattle.std.specs.Prelude.{map}
use Rattle.check_names.specs.Function.{functions_in}
use Rattle.check_calls.specs.Callees.{callees, calls_of_all, functions_at}
use Rattle.check_calls.specs.Graph.{rows_of}
use Rattle.check_calls.proofs.rows.callees_of_all.Given as goal

abbrev pub invariant-loop-function : goal.invariant-loop-function
invariant-loop-function l =
    map (functions_at l.names) (rows_of l.rows.items)
    ≡ map (λ f. callees l.names (calls_of_all f.body)) (functions_in (take l.function-index l.function-items))
