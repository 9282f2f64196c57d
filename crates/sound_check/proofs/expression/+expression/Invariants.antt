-- The expressions are sound where those that are left are.
use Rattle.std.proofs.Common.{◌↔◌, drop}
use Rattle.std.specs.List.{AllByRecursion}
use Rattle.typed_tree.specs.SoundExpression.{IsSoundExpr}
use Rattle.sound_check.proofs.expression.+expression.Given as goal

abbrev pub invariant-are_sound_exprs-loop-e : goal.invariant-are_sound_exprs-loop-e
invariant-are_sound_exprs-loop-e l = AllByRecursion (IsSoundExpr l.typed l.number) (drop l.e-index l.all) ↔
    AllByRecursion (IsSoundExpr l.typed l.number) l.all
