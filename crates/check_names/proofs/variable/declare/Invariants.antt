-- What was appended and what is left are the variables of the declaration.
use Rattle.std.proofs.Common.{◌≡◌, ◌++◌, List, drop}
use Rattle.dbc_reader.specs.declared.message.DbcMessage.{DbcMessage}
use Rattle.capl_meaning.specs.Variable.{variables_of_declaration}
use Rattle.check_names.specs.Variable.{variables_in}
use Rattle.check_names.proofs.variable.declare.Given as goal

abbrev pub invariant-loop-item : goal.invariant-loop-item
invariant-loop-item l = (base : List DbcMessage) →
    variables_in base l.into.items
    ++ variables_of_declaration base l.place.owner l.place.file (record l.decl { items = drop l.item-index l.decl.items })
    ≡ variables_in base l.fn.into.items ++ variables_of_declaration base l.place.owner l.place.file l.decl
