-- What was noted and what is left are all.
use Rattle.std.proofs.Common.{◌≡◌, drop}
use Rattle.std.specs.Prelude.{flat_map}
use Rattle.capl_meaning.specs.ExpressionRules.{integer_needed}
use Rattle.check_names.specs.First.{noted}
use Rattle.check_sorts.specs.Scope.{scope_in}
use Rattle.check_expressions.proofs.call.note_integers_needed.Given as goal

abbrev pub invariant-loop-i : goal.invariant-loop-i
invariant-loop-i l =
    noted l.first (flat_map (integer_needed (scope_in l.scope)) (drop l.i l.args))
    ≡ noted l.fn.first (flat_map (integer_needed (scope_in l.scope)) l.args)
