-- What a program declares, in program order (CAPL manual, variables, procedures): file by file, and in a file
-- from its beginning on.
use Rattle.std.specs.Prelude.{ℕ, suc, ◌+◌, ◌^◌, Bool, true, false, if◌then◌else◌, List, [], ◌∷◌, ◌++◌, map, flat_map, find, Option, Some, None}
use Rattle.std.specs.Option.{option_map_or}
use Rattle.std.specs.Str.{bytes_eq}
use Rattle.int_kinds.specs.declared.kinds.Kind.{Kind}
use Rattle.dbc_reader.specs.declared.message.DbcMessage.{DbcMessage}
use Rattle.capl_tree.specs.declared.expr.Expr.{Expr}
use Rattle.capl_tree.specs.declared.declaration.Decl.{Decl}
use Rattle.capl_tree.specs.declared.declaration.DeclType.{DeclType}
use Rattle.capl_tree.specs.declared.declaration.DeclType.TheVariants as decl_type
use Rattle.capl_tree.specs.declared.declaration.Init.{Init}
use Rattle.capl_tree.specs.declared.statement.Stmt.{Stmt, Row_of-Stmt, end_of-Stmt, more_of-Stmt}
use Rattle.capl_tree.specs.declared.statement.Stmt.TheBlock.{Row_of-Arm, end_of-Arm, more_of-Arm, Row_of-Group, end_of-Group, more_of-Group, Held-Stmt-If-1}
use Rattle.capl_tree.specs.declared.statement.Stmt.TheVariants as stmt
use Rattle.capl_tree.specs.declared.procedure.Proc.{Proc}
use Rattle.capl_tree.specs.declared.procedure.Head.{Head}
use Rattle.capl_tree.specs.declared.procedure.Head.TheVariants as head
use Rattle.capl_tree.specs.declared.procedure.Param.{Param}
use Rattle.capl_tree.specs.declared.file.TopItem.{TopItem}
use Rattle.capl_tree.specs.declared.file.TopItem.TheVariants as top
use Rattle.capl_tree.specs.declared.file.FileTree.{FileTree}
use Rattle.capl_tree.specs.declared.file.Program.{Program}
use Rattle.capl_tree.specs.Forms as form

-- a part of a program that declares: variables of a file, for all procedures; or a procedure, by its number
-- from 1 on and its file
pub data Part : Type 0 where
  Globals : ℕ → List Decl → Part
  Procedure : ℕ → ℕ → Proc → Part

-- the parts of a file's items, where the next procedure has this number, before the parts that follow for
-- the number of the procedure after them
abbrev pub parts_of_items : ℕ → List TopItem → ℕ → (ℕ → List Part) → List Part
parts_of_items file [] number others = others number
parts_of_items file (top.Includes names ∷ items) number others = parts_of_items file items number others
parts_of_items file (top.Variables declarations ∷ items) number others =
    Globals file declarations ∷ parts_of_items file items number others
parts_of_items file (top.Proc procedure ∷ items) number others =
    Procedure number file procedure ∷ parts_of_items file items (suc number) others

-- the parts of files, of which the first has this number, where the next procedure has that one
abbrev pub parts_of_files : ℕ → List FileTree → ℕ → List Part
parts_of_files file [] number = []
parts_of_files file (tree ∷ trees) number =
    parts_of_items file tree.items number (parts_of_files (suc file) trees)

-- the parts of a program
abbrev pub parts_of : Program → List Part
parts_of program = parts_of_files 0 program.files 1

abbrev mutual
  -- the declarations in a statement, whatever block they stand in; one without statements has none
  pub declarations_in : Stmt → List Decl
  declarations_in (stmt.Decl declaration) = declaration ∷ []
  declarations_in (stmt.Block' shape body) = declarations_of body
  declarations_in (stmt.If' shape arms other) = declarations_of_arms arms ++ declarations_of_else other
  declarations_in (form.While test body) = declarations_in body
  declarations_in (form.Do body test) = declarations_in body
  declarations_in (form.For init test step body) = declarations_in body
  declarations_in (stmt.Switch' on shape groups) = declarations_of_groups groups
  declarations_in _ = []

  -- those in statements in a row
  pub declarations_of : {m : _} → Row_of-Stmt m → List Decl
  declarations_of end_of-Stmt = []
  declarations_of (more_of-Stmt first rest) = declarations_in first ++ declarations_of rest

  -- those in the arms of an `if`
  pub declarations_of_arms : {m : _} → Row_of-Arm m → List Decl
  declarations_of_arms end_of-Arm = []
  declarations_of_arms (more_of-Arm test body rest) = declarations_in body ++ declarations_of_arms rest

  -- those behind a last `else`
  pub declarations_of_else : Held-Stmt-If-1 → List Decl
  declarations_of_else form.NoElse = []
  declarations_of_else (form.Else body) = declarations_in body

  -- those in the groups of a `switch`
  pub declarations_of_groups : {m : _} → Row_of-Group m → List Decl
  declarations_of_groups end_of-Group = []
  declarations_of_groups (more_of-Group labels shape body rest) =
      declarations_of body ++ declarations_of_groups rest

-- how a message variable is declared: by an identifier, as it stands in its cell, or by the name of a
-- message, which the database may have
pub data MessageType : Type 0 where
  ByIdentifier : ℕ → MessageType
  ByName : Option DbcMessage → MessageType

-- what a variable is: a number of a kind, `const` or not; an array of such, with its size; a message; a
-- timer with its unit in microseconds; or an array of messages or timers, which there is not
pub data Form : Type 0 where
  Number : Kind → Bool → Form
  Array : Kind → Bool → Expr → Form
  Message : MessageType → Form
  Timer : ℕ → Form
  Misfit : Form

-- a variable is a timer
abbrev pub is_timer : Form → Bool
is_timer (Timer unit) = true
is_timer _ = false

-- the message of this name in the database
abbrev pub message_named : List DbcMessage → List ℕ → Option DbcMessage
message_named base name = find (λ m. bytes_eq name m.name) base

-- an identifier as it stands in a cell: bit 31 marks an extended one
abbrev pub identifier : ℕ → Bool → ℕ
identifier n extended = if extended then 2 ^ 31 + n else n

-- what a declaration declares, by its type and the size behind the name
abbrev pub form_of : List DbcMessage → DeclType → Option Expr → Form
form_of base (decl_type.Number kind fixed) None = Number kind fixed
form_of base (decl_type.Number kind fixed) (Some size) = Array kind fixed size
form_of base decl_type.Any None = Message (ByIdentifier 0)
form_of base (decl_type.ById value extended at) None =
    Message (ByIdentifier (option_map_or (λ n. identifier n extended) value 0))
form_of base (decl_type.ByName name at) None = Message (ByName (message_named base name))
form_of base decl_type.Seconds None = Timer 1000000
form_of base decl_type.Millis None = Timer 1000
form_of base what (Some size) = Misfit

-- a variable: 0 for a global, and the number of its procedure for a parameter or local; its file; the token
-- of its name there; its name, what it is, and its initialiser
pub record Variable : Type 0 where
  pub owner : ℕ
  pub file : ℕ
  pub token : ℕ
  pub name : List ℕ
  pub form : Form
  pub init : Option Init

-- the variables of a declaration
abbrev pub variables_of_declaration : List DbcMessage → ℕ → ℕ → Decl → List Variable
variables_of_declaration base owner file declaration =
    map (λ d. record {
      owner = owner;
      file = file;
      token = d.at;
      name = d.name;
      form = form_of base declaration.what d.size;
      init = d.init;
    }) declaration.items

-- the variable of a parameter
abbrev pub variable_of_parameter : ℕ → ℕ → Param → Variable
variable_of_parameter owner file p =
    record {
      owner = owner;
      file = file;
      token = p.at;
      name = p.name;
      form = Number p.kind false;
      init = None;
    }

-- the parameters of a procedure
abbrev pub parameters_of : Head → List Param
parameters_of (head.Function kind name parameters at) = parameters
parameters_of _ = []

-- the variables of a part: those that it declares, of a procedure its parameters first
abbrev pub variables_of_part : List DbcMessage → Part → List Variable
variables_of_part base (Globals file declarations) =
    flat_map (variables_of_declaration base 0 file) declarations
variables_of_part base (Procedure number file procedure) =
    map (variable_of_parameter number file) (parameters_of procedure.head)
    ++ flat_map (variables_of_declaration base number file) (flat_map declarations_in procedure.body)

-- the variables of a program, in program order of their declarations
abbrev pub variables_of : List DbcMessage → Program → List Variable
variables_of base program = flat_map (variables_of_part base) (parts_of program)
