-- The table has the const integers of the variables so far.
use Rattle.std.proofs.Common.{◌≡◌, List, drop}
use Rattle.capl_meaning.specs.Constant.{Constant, constants_behind, constants_of}
use Rattle.check_names.specs.Variable.{variables_in}
use Rattle.check_sorts.specs.Constant.{AreNumbers, AreValues, held}
use Rattle.check_sorts.proofs.constants.values_of.Given as goal

abbrev pub invariant-loop-declared : goal.invariant-loop-declared
invariant-loop-declared l = (known : List Constant) × AreValues (held l.table) known × AreNumbers (held l.table)
    × (constants_behind l.names known (variables_in l.names.base (drop l.declared-index l.declared-items)) ≡ constants_of l.names)
