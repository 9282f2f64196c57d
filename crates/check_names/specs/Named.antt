-- What names break in a program: those that are declared twice, the heads of procedures, and the types of
-- declarations.
use Rattle.std.specs.Prelude.{List, [], ◌++◌, flat_map}
use Rattle.dbc_reader.specs.declared.message.DbcMessage.{DbcMessage}
use Rattle.capl_tree.specs.declared.declaration.Decl.{Decl}
use Rattle.capl_tree.specs.declared.procedure.Proc.{Proc}
use Rattle.capl_tree.specs.declared.procedure.Sel.{Sel}
use Rattle.capl_tree.specs.declared.file.Program.{Program}
use Rattle.capl_meaning.specs.declared.offence.Offence.{Offence}
use Rattle.capl_meaning.specs.Variable.{Part, Globals, Procedure, declarations_in, parts_of}
use Rattle.capl_meaning.specs.Names.{Names, Scope, inside, names_of, outside}
use Rattle.capl_meaning.specs.DeclarationRules.{type_rules}
use Rattle.capl_meaning.specs.ProcedureRules.{head_offences, inner_name_offences, outer_name_offences, purpose_offences, selection_offences, selector_place}

-- what a selector breaks by itself
abbrev pub selector_offences : Scope → Sel → List Offence
selector_offences s one = selection_offences s (selector_place one) one.what

-- what the types of declarations break
abbrev pub types_offences : Scope → List Decl → List Offence
types_offences s declarations = flat_map (λ d. type_rules s d.what) declarations

-- what the head of a procedure breaks by itself, and the types of the declarations in its body
abbrev pub procedure_head_and_types : Scope → Proc → List Offence
procedure_head_and_types s procedure =
    head_offences s procedure.head ++ types_offences s (flat_map declarations_in procedure.body)

-- the same of a part of a program
abbrev pub head_and_types : Names → Part → List Offence
head_and_types names (Globals file declarations) = types_offences (outside names file) declarations
head_and_types names (Procedure number file procedure) =
    procedure_head_and_types (inside names number file procedure.head) procedure

-- the parameters and locals of a part that have the name of an earlier one
abbrev pub names_inside : Names → Part → List Offence
names_inside names (Globals file declarations) = []
names_inside names (Procedure number file procedure) = inner_name_offences names number

-- what names break in a program with a database
abbrev pub named_offences : List DbcMessage → Program → List Offence
named_offences base program =
    outer_name_offences (parts_of program)
    ++ (purpose_offences (names_of base program) (parts_of program)
    ++ (flat_map (head_and_types (names_of base program)) (parts_of program)
    ++ flat_map (names_inside (names_of base program)) (parts_of program)))
