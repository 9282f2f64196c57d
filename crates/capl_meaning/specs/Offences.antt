-- All offences of a program against the rules E09 to E28, and which of them is the first.
use Rattle.std.specs.Prelude.{◌≡◌, ◌<◌, ◌≤◌, ◌⊎◌, ℕ, List, ◌++◌, flat_map, All, Contains}
use Rattle.dbc_reader.specs.declared.message.DbcMessage.{DbcMessage}
use Rattle.capl_tree.specs.declared.file.Program.{Program}
use Rattle.capl_meaning.specs.declared.offence.Offence.{Offence}
use Rattle.capl_meaning.specs.Variable.{Part, Globals, Procedure, parts_of}
use Rattle.capl_meaning.specs.Names.{Names, Scope, inside, names_of, outside}
use Rattle.capl_meaning.specs.DeclarationRules.{declaration_offences}
use Rattle.capl_meaning.specs.StatementRules.{in_body, statement_offences}
use Rattle.capl_meaning.specs.ProcedureRules.{head_offences, inner_name_offences, outer_name_offences, purpose_offences}

-- what a part of a program breaks
abbrev pub part_offences : Names → Part → List Offence
part_offences names (Globals file declarations) =
    flat_map (declaration_offences (outside names file)) declarations
part_offences names (Procedure number file procedure) =
    let s : Scope = inside names number file procedure.head in
    head_offences s procedure.head
    ++ (inner_name_offences names number ++ flat_map (statement_offences s in_body) procedure.body)

-- all offences of a program with a database
abbrev pub offences_of : List DbcMessage → Program → List Offence
offences_of base program =
    outer_name_offences (parts_of program)
    ++ (purpose_offences (names_of base program) (parts_of program)
    ++ flat_map (part_offences (names_of base program)) (parts_of program))

-- an offence comes no later than another: by its file in program order, its token, and the rule's number
abbrev pub IsNoLater : Offence → Offence → Type 0
IsNoLater a b =
    (a.file < b.file) ⊎ ((a.file ≡ b.file) × ((a.token < b.token)
    ⊎ ((a.token ≡ b.token) × (a.rule.number ≤ b.rule.number))))

-- an offence is the first of some: it is one of them, and none comes earlier
pub record IsFirst (offence : Offence) (offences : List Offence) : Type 0 where
  pub among : Contains offences offence
  pub earliest : All (IsNoLater offence) offences

-- the first offence of a program with a database
abbrev pub IsFirstOffence : List DbcMessage → Program → Offence → Type 0
IsFirstOffence base program offence = IsFirst offence (offences_of base program)
