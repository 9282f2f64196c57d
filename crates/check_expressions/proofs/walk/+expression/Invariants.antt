-- What was noted and what is left are all, and the sorts are those of what was judged.
use Rattle.std.proofs.Common.{◌≡◌, drop, take}
use Rattle.std.specs.Prelude.{flat_map}
use Rattle.capl_meaning.specs.ExpressionRules.{offences}
use Rattle.check_names.specs.First.{noted}
use Rattle.check_sorts.specs.Scope.{scope_in}
use Rattle.check_expressions.specs.Judged.{sorts_in}
use Rattle.check_expressions.proofs.walk.+expression.Given as goal

abbrev pub invariant-judge_row-loop-e : goal.invariant-judge_row-loop-e
invariant-judge_row-loop-e l =
    (l.sorts.items ≡ sorts_in (scope_in l.scope) (take l.e-index l.all))
    × (noted l.first (flat_map (offences (scope_in l.scope)) (drop l.e-index l.all))
    ≡ noted l.fn.first (flat_map (offences (scope_in l.scope)) l.all))
