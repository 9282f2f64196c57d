-- The size so far, with that of the expressions that are left, is the whole size, up to the limit.
use Rattle.std.proofs.Common.{◌≡◌, ◌+◌, ◌-◌, ◌^◌, ◌<◌, drop}
use Rattle.std.specs.Prelude.{min, sum_by}
use Rattle.typed_tree.specs.Size.{value_size}
use Rattle.code_size.proofs.expression.+sizes.Given as goal

abbrev pub invariant-values_size-loop-e : goal.invariant-values_size-loop-e
invariant-values_size-loop-e l = record {
  within : l.size < 2 ^ 64;
  size : min (l.size + sum_by (value_size l.typed) (drop l.e-index l.all)) (2 ^ 64 - 1) ≡
      min (sum_by (value_size l.typed) l.all) (2 ^ 64 - 1);
}
