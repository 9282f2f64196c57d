-- What was noted and what is left are all.
use Rattle.std.proofs.Common.{◌≡◌, drop}
use Rattle.std.specs.List.{zip}
use Rattle.std.specs.Prelude.{flat_map}
use Rattle.check_names.specs.First.{noted}
use Rattle.check_sorts.specs.Scope.{scope_in}
use Rattle.check_expressions.specs.Arguments.{shown_pair}
use Rattle.check_expressions.proofs.write.note_each_shown.Given as goal

abbrev pub invariant-loop-i : goal.invariant-loop-i
invariant-loop-i l =
    noted l.first (flat_map (shown_pair (scope_in l.scope)) (drop l.i (zip l.codes l.args)))
    ≡ noted l.fn.first (flat_map (shown_pair (scope_in l.scope)) (zip l.codes l.args))
