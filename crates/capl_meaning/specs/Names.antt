-- What names mean in a program (CAPL manual, variables, functions, event procedures).
use Rattle.std.specs.Prelude.{ℕ, ◌==◌, Bool, ◌&&◌, ◌||◌, if◌then◌else◌, nat_lt, List, [], ◌∷◌, filter_map, find, map, Option, Some, None, codes}
use Rattle.std.specs.Option.{option_map_or, option_or}
use Rattle.std.specs.Str.{bytes_eq}
use Rattle.int_kinds.specs.declared.kinds.Kind.{Kind}
use Rattle.dbc_reader.specs.declared.message.DbcMessage.{DbcMessage}
use Rattle.dbc_reader.specs.declared.signals.DbcSignal.{DbcSignal}
use Rattle.capl_tree.specs.declared.statement.Stmt.{Stmt}
use Rattle.capl_tree.specs.declared.procedure.Head.{Head}
use Rattle.capl_tree.specs.declared.procedure.Head.TheVariants as head
use Rattle.capl_tree.specs.declared.procedure.Param.{Param}
use Rattle.capl_tree.specs.declared.procedure.SelWhat.{SelWhat}
use Rattle.capl_tree.specs.declared.procedure.SelWhat.TheVariants as selected
use Rattle.capl_tree.specs.declared.file.Program.{Program}
use Rattle.capl_meaning.specs.declared.builtin.Builtin.{Builtin}
use Rattle.capl_meaning.specs.declared.builtin.Builtin.TheVariants as builtin
use Rattle.capl_meaning.specs.Variable.{Part, Globals, Procedure, Variable, message_named, parts_of, variables_of}

-- a function of a program: the number of its procedure, its name, the kind that it gives if it gives one, its
-- parameters and its body; its file and the token of its name
pub record Function : Type 0 where
  pub number : ℕ
  pub file : ℕ
  pub token : ℕ
  pub name : List ℕ
  pub gives : Option Kind
  pub parameters : List Param
  pub body : List Stmt

-- the function of a procedure, if it is one
abbrev pub function_by : ℕ → ℕ → Head → List Stmt → Option Function
function_by number file (head.Function kind name parameters at) body = Some (record {
  number = number;
  file = file;
  token = at;
  name = name;
  gives = kind;
  parameters = parameters;
  body = body;
})
function_by number file _ body = None

-- the function of a part of a program, if it is one
abbrev pub function_of_part : Part → Option Function
function_of_part (Globals file declarations) = None
function_of_part (Procedure number file procedure) = function_by number file procedure.head procedure.body

-- what a program declares: the messages of its database, its variables and its functions, both in program
-- order
pub record Names : Type 0 where
  pub base : List DbcMessage
  pub variables : List Variable
  pub functions : List Function

-- the names of a program with a database
abbrev pub names_of : List DbcMessage → Program → Names
names_of base program = record {
  base = base;
  variables = variables_of base program;
  functions = filter_map function_of_part (parts_of program);
}

-- what `this` is in a procedure: nothing; a frame, with the signals of its message where the procedure is for
-- one name alone; or a key
pub data ThisForm : Type 0 where
  NoThis : ThisForm
  ThisFrame : Option (List DbcSignal) → ThisForm
  ThisKey : ThisForm

-- the signals of the message of a name; none where the database does not have it
abbrev pub signals_by : Option DbcMessage → List DbcSignal
signals_by message = option_map_or (λ m. m.signals) message []

-- the signals that `this` has for what is selected: those of one name alone, on whichever channel
abbrev pub signals_of_selectors : List DbcMessage → List SelWhat → Option (List DbcSignal)
signals_of_selectors base (selected.Name name at ∷ []) = Some (signals_by (message_named base name))
signals_of_selectors base _ = None

-- what `this` is in a procedure with this head
abbrev pub this_form : List DbcMessage → Head → ThisForm
this_form base (head.Message selectors) =
    ThisFrame (signals_of_selectors base (map (λ one. one.what) selectors))
this_form base (head.Key value) = ThisKey
this_form base _ = NoThis

-- the kind that a procedure with this head gives, if it gives one
abbrev pub kind_given : Head → Option Kind
kind_given (head.Function kind name parameters at) = kind
kind_given _ = None

-- where a part of a program stands: among which names, in which procedure by its number, 0 being outside of
-- procedures, and in which file; what `this` is there, and what the procedure gives
pub record Scope : Type 0 where
  pub names : Names
  pub owner : ℕ
  pub file : ℕ
  pub this : ThisForm
  pub gives : Option Kind

-- outside of procedures, in a file
abbrev pub outside : Names → ℕ → Scope
outside names file = record { names = names; owner = 0; file = file; this = NoThis; gives = None }

-- in a procedure, by its number, file and head
abbrev pub inside : Names → ℕ → ℕ → Head → Scope
inside names number file head = record {
  names = names;
  owner = number;
  file = file;
  this = this_form names.base head;
  gives = kind_given head;
}

-- in a function
abbrev pub inside_function : Names → Function → Scope
inside_function names f =
    record { names = names; owner = f.number; file = f.file; this = NoThis; gives = f.gives }

-- whether a variable is a parameter or local of the procedure, has the name, and its declared name stands
-- before the token
abbrev pub is_local : ℕ → List ℕ → ℕ → Variable → Bool
is_local owner name token v =
    nat_lt 0 owner && (v.owner == owner && (bytes_eq name v.name && nat_lt v.token token))

-- the global of a name
abbrev pub global : Names → List ℕ → Option Variable
global names name = find (λ v. v.owner == 0 && bytes_eq name v.name) names.variables

-- what a name means at a token: the parameter or local of this name that is declared before it in the
-- procedure, else the global, else nothing
abbrev pub means : Scope → List ℕ → ℕ → Option Variable
means s name token = option_or (find (is_local s.owner name token) s.names.variables) (global s.names name)

-- RX and rx are 0, TX and tx are 1, where no variable has the name
abbrev pub direction : List ℕ → Option ℕ
direction name =
    if bytes_eq name (codes "RX") || bytes_eq name (codes "rx") then Some 0
    else if bytes_eq name (codes "TX") || bytes_eq name (codes "tx") then Some 1
    else None

-- the functions of the language, by their names
abbrev pub builtin_named : List ℕ → Option Builtin
builtin_named name =
    if bytes_eq name (codes "output") then Some builtin.Output
    else if bytes_eq name (codes "write") then Some builtin.Write
    else if bytes_eq name (codes "setTimer") then Some builtin.SetTimer
    else if bytes_eq name (codes "setTimerCyclic") then Some builtin.SetTimerCyclic
    else if bytes_eq name (codes "cancelTimer") then Some builtin.CancelTimer
    else if bytes_eq name (codes "stop") then Some builtin.Stop
    else if bytes_eq name (codes "isTimerActive") then Some builtin.IsTimerActive
    else if bytes_eq name (codes "timeNow") then Some builtin.TimeNow
    else if bytes_eq name (codes "elCount") then Some builtin.ElCount
    else None

-- what a call is of: a function of the language, a function of the program, or nothing
pub data Callee : Type 0 where
  OfLanguage : Builtin → Callee
  OfProgram : Function → Callee
  Unknown : Callee

-- what a call of a name is of: a function of the language, else the first function of the program with the
-- name; variables have no part in it
abbrev pub callee : Names → List ℕ → Callee
callee names name =
    option_map_or OfLanguage (builtin_named name)
    (option_map_or OfProgram (find (λ f. bytes_eq name f.name) names.functions) Unknown)
