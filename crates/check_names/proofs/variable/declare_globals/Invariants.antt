-- What was appended and what is left are the variables of all declarations.
use Rattle.std.proofs.Common.{◌≡◌, ◌++◌, List, drop}
use Rattle.std.specs.Prelude.{flat_map}
use Rattle.dbc_reader.specs.declared.message.DbcMessage.{DbcMessage}
use Rattle.capl_meaning.specs.Variable.{variables_of_declaration}
use Rattle.check_names.specs.Variable.{variables_in}
use Rattle.check_names.proofs.variable.declare_globals.Given as goal

abbrev pub invariant-loop-decl : goal.invariant-loop-decl
invariant-loop-decl l = (base : List DbcMessage) →
    variables_in base l.into.items
    ++ flat_map (variables_of_declaration base l.place.owner l.place.file) (drop l.decl-index l.declarations)
    ≡ variables_in base l.fn.into.items
    ++ flat_map (variables_of_declaration base l.place.owner l.place.file) l.declarations
