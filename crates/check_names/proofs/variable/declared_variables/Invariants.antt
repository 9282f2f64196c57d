-- What was appended and what is left are the variables of all parts.
use Rattle.std.proofs.Common.{◌≡◌, ◌++◌, List, drop}
use Rattle.std.specs.Prelude.{flat_map}
use Rattle.dbc_reader.specs.declared.message.DbcMessage.{DbcMessage}
use Rattle.capl_meaning.specs.Variable.{variables_of_part}
use Rattle.check_names.specs.Part.{parts_in}
use Rattle.check_names.specs.Variable.{variables_in}
use Rattle.check_names.proofs.variable.declared_variables.Given as goal

abbrev pub invariant-loop-part : goal.invariant-loop-part
invariant-loop-part l = (base : List DbcMessage) →
    variables_in base l.all.items ++ flat_map (variables_of_part base) (parts_in (drop l.part-index l.parts))
    ≡ flat_map (variables_of_part base) (parts_in l.parts)
