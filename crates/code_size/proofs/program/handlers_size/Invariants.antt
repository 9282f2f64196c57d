-- The size so far, with that of the procedures that are left, is the whole size, up to the limit.
use Rattle.std.proofs.Common.{◌≡◌, ◌+◌, ◌-◌, ◌^◌, ◌<◌, drop}
use Rattle.std.specs.Prelude.{min}
use Rattle.code_size.specs.Rows.{handlers_size}
use Rattle.code_size.proofs.program.handlers_size.Given as goal

abbrev pub invariant-loop-handler : goal.invariant-loop-handler
invariant-loop-handler l = record {
  within : l.size < 2 ^ 64;
  size : min (l.size + handlers_size l.typed (drop l.handler-index l.handlers)) (2 ^ 64 - 1) ≡ min (handlers_size l.typed l.handlers) (2 ^ 64 - 1);
}
