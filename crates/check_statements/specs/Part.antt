-- What declarations and statements break in the parts of a program.
use Rattle.std.specs.Prelude.{List, flat_map}
use Rattle.capl_meaning.specs.declared.offence.Offence.{Offence}
use Rattle.capl_meaning.specs.DeclarationRules.{declaration_offences}
use Rattle.capl_meaning.specs.Names.{Names, inside, outside}
use Rattle.capl_meaning.specs.StatementRules.{in_body}
use Rattle.capl_meaning.specs.Variable.{Part, Globals, Procedure}
use Rattle.check_statements.specs.Statement.{all_offences}

-- what the declarations or the statements of a part break
abbrev pub body_offences : Names → Part → List Offence
body_offences names (Globals file declarations) =
    flat_map (declaration_offences (outside names file)) declarations
body_offences names (Procedure number file procedure) =
    all_offences (inside names number file procedure.head) in_body procedure.body
