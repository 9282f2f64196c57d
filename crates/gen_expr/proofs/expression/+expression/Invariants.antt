-- What is appended so far, with the code of the expressions that are left, is the whole code.
use Rattle.std.proofs.Common.{◌≡◌, ◌+◌, ◌≤◌, ◌++◌, length, drop}
use Rattle.std.specs.Prelude.{sum_by}
use Rattle.typed_tree.specs.Size.{value_size}
use Rattle.code_listing.specs.Statement.{values_code}
use Rattle.gen_expr.proofs.expression.+expression.Given as goal

abbrev pub invariant-emit_values-loop-e : goal.invariant-emit_values-loop-e
invariant-emit_values-loop-e l = record {
  below : l.below + sum_by (value_size l.typed) (drop l.e-index l.all) ≤
      l.depth + sum_by (value_size l.typed) l.all;
  grown : length l.into + sum_by (value_size l.typed) (drop l.e-index l.all) ≡
      length l.fn.into + sum_by (value_size l.typed) l.all;
  code : l.into ++ values_code l.typed (drop l.e-index l.all) (length l.into) l.below ≡
      l.fn.into ++ values_code l.typed l.all (length l.fn.into) l.depth;
}
