-- The table is that of the functions so far.
use Rattle.std.proofs.Common.{◌≡◌, take}
use Rattle.check_names.specs.Function.{functions_in}
use Rattle.check_names.specs.Inside.Table.{IsCalled}
use Rattle.check_names.proofs.function.called_functions.Given as goal

abbrev pub invariant-loop-function : goal.invariant-loop-function
invariant-loop-function l = record {
  number : l.number ≡ l.function-index;
  table : IsCalled l.table (functions_in (take l.function-index l.functions));
}
