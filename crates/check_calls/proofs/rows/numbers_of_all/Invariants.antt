-- The numbers are those of the functions so far.
use Rattle.std.proofs.Common.{◌≡◌, take}
use Rattle.std.specs.Prelude.{map}
use Rattle.check_names.specs.Function.{functions_in}
use Rattle.check_calls.proofs.rows.numbers_of_all.Given as goal

abbrev pub invariant-loop-function : goal.invariant-loop-function
invariant-loop-function l =
    l.numbers.items ≡ map (λ f. f.number) (functions_in (take l.function-index l.function-items))
