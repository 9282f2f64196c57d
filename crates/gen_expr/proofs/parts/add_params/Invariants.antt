-- What is appended so far is the code of the parameters from one on.
use Rattle.std.proofs.Common.{◌≡◌, ◌+◌, ◌*◌, ◌≤◌, ◌++◌, length, drop}
use Rattle.code_listing.specs.Expression.{params_code}
use Rattle.gen_expr.proofs.parts.add_params.Given as goal

abbrev pub decreases-loop-left : goal.decreases-loop-left
decreases-loop-left l = l.left

abbrev pub invariant-loop-left : goal.invariant-loop-left
invariant-loop-left l = record {
  within : l.left ≤ length l.params;
  grown : length l.into + 2 * l.left ≡ length l.fn.into + 2 * length l.params;
  code : l.into ≡ l.fn.into ++ params_code (drop l.left l.params) (l.depth + l.left);
}
