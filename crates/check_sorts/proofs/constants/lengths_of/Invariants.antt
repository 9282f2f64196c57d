-- The lengths so far.
use Rattle.std.proofs.Common.{◌≡◌, take}
use Rattle.std.specs.Prelude.{map}
use Rattle.capl_meaning.specs.Constant.{elements_of}
use Rattle.check_names.specs.Variable.{variable_in}
use Rattle.check_sorts.proofs.constants.lengths_of.Given as goal

abbrev pub invariant-loop-declared : goal.invariant-loop-declared
invariant-loop-declared l =
    l.all.items ≡ map (λ d. elements_of l.names (variable_in l.names.base d)) (take l.declared-index l.declared-items)
