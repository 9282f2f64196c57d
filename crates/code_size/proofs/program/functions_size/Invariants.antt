-- The size so far, with that of the procedures that are left, is the whole size, up to the limit.
use Rattle.std.proofs.Common.{◌≡◌, ◌+◌, ◌-◌, ◌^◌, ◌<◌, drop}
use Rattle.std.specs.Prelude.{min}
use Rattle.code_size.specs.Rows.{functions_size}
use Rattle.code_size.proofs.program.functions_size.Given as goal

abbrev pub invariant-loop-function : goal.invariant-loop-function
invariant-loop-function l = record {
  within : l.size < 2 ^ 64;
  size : min (l.size + functions_size l.typed (drop l.function-index l.functions)) (2 ^ 64 - 1) ≡ min (functions_size l.typed l.functions) (2 ^ 64 - 1);
}
