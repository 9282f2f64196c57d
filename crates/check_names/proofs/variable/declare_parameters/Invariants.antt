-- What was appended and what is left are the variables of all parameters.
use Rattle.std.proofs.Common.{◌≡◌, ◌++◌, List, drop}
use Rattle.std.specs.Prelude.{map}
use Rattle.dbc_reader.specs.declared.message.DbcMessage.{DbcMessage}
use Rattle.capl_meaning.specs.Variable.{variable_of_parameter}
use Rattle.check_names.specs.Variable.{variables_in}
use Rattle.check_names.proofs.variable.declare_parameters.Given as goal

abbrev pub invariant-loop-parameter : goal.invariant-loop-parameter
invariant-loop-parameter l = (base : List DbcMessage) →
    variables_in base l.into.items
    ++ map (variable_of_parameter l.place.owner l.place.file) (drop l.parameter-index l.parameters)
    ≡ variables_in base l.fn.into.items ++ map (variable_of_parameter l.place.owner l.place.file) l.parameters
