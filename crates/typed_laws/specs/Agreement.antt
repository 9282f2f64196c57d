-- When a part of a typed program does what a part of a source does. A walk over the source gives these facts
-- form by form, before the typed program is there; they are of use once it is, in a program that breaks no
-- rule.
use Rattle.std.specs.Prelude.{◌≡◌, ℕ, Bool, true, false, List, [], ◌∷◌, ◌++◌, filter_map, map, slice_get, Option, Some, None, ⊤}
use Rattle.std.specs.List.{AllZip}
use Rattle.int_kinds.specs.declared.kinds.Kind.{Kind}
use Rattle.write_format.specs.declared.argument.ArgKind.{ArgKind}
use Rattle.write_format.specs.declared.argument.ArgKind.TheVariants as argument
use Rattle.write_format.specs.Line.{FormatText}
use Rattle.control_flow.specs.World.{World, Run, Gives}
use Rattle.control_flow.specs.Control.{Calls, Computes, Does}
use Rattle.capl_tree.specs.declared.expr.Expr.{Expr}
use Rattle.capl_tree.specs.declared.expr.Expr.TheVariants as expr
use Rattle.capl_tree.specs.declared.statement.Stmt.{Stmt}
use Rattle.capl_tree.specs.declared.statement.Arm.{Arm}
use Rattle.capl_tree.specs.declared.statement.Group.{Group}
use Rattle.dbc_reader.specs.declared.message.DbcMessage.{DbcMessage}
use Rattle.capl_tree.specs.declared.file.Program.{Program}
use Rattle.capl_tree.specs.declared.procedure.Param.{Param}
use Rattle.capl_tree.specs.Forms as tree
use Rattle.typed_tree.specs.declared.expression.Place.{Place}
use Rattle.typed_tree.specs.declared.expression.TExpr.{TExpr}
use Rattle.typed_tree.specs.declared.statement.TStmt.{TStmt}
use Rattle.typed_tree.specs.declared.statement.TArm.{TArm}
use Rattle.typed_tree.specs.declared.statement.TGroup.{TGroup}
use Rattle.typed_tree.specs.declared.program.Typed.{Typed}
use Rattle.typed_tree.specs.declared.program.THandler.{THandler}
use Rattle.typed_tree.specs.Expression as typed
use Rattle.typed_tree.specs.Memory as cells
use Rattle.typed_tree.specs.Statement as typed_statement
use Rattle.typed_tree.specs.Program.{body_of}
use Rattle.typed_tree.specs.Program as typed_procedure
use Rattle.capl_meaning.specs.declared.builtin.Builtin.{Builtin}
use Rattle.capl_meaning.specs.declared.builtin.Builtin.TheVariants as builtin
use Rattle.capl_meaning.specs.declared.sort.Sort.TheVariants as sort
use Rattle.capl_meaning.specs.Variable.{Variable, variable_of_parameter}
use Rattle.capl_meaning.specs.Names.{Callee, Function, Names, OfLanguage, OfProgram, Scope, callee, inside_function, names_of}
use Rattle.capl_meaning.specs.Calls.{function_numbered}
use Rattle.capl_meaning.specs.Format.{quoted_text}
use Rattle.capl_meaning.specs.Message.{Held, HeldVariable, array_in}
use Rattle.capl_meaning.specs.Sort.{is_number, sort_of}
use Rattle.capl_meaning.specs.Constant.{elements_of}
use Rattle.capl_meaning.specs.Store.{This, event_kinds, variable_key, laid_kinds, timer_units}
use Rattle.capl_meaning.specs.Expression as source
use Rattle.capl_meaning.specs.Statement.{Handler, handlers_in}
use Rattle.capl_meaning.specs.Statement as source_statement
use Rattle.capl_meaning.specs.StatementRules as source_rules
use Rattle.typed_laws.specs.Laid.{AreDistinct, GivesOnly, IsAmong, IsOpen, IsReal, laid, laid_memory, laid_run, laid_spot, mapped, slot}
use Rattle.typed_laws.specs.Starts.{StartsAs}

-- ---- programs

-- What the names of a program without offences have: no name is declared twice. And what those of each
-- program have: the function that is called is the one of its number, and the parameters of functions are
-- variables.
pub record ArePlain (names : Names) : Type 0 where
  pub distinct : AreDistinct names.variables
  pub numbered : (name : List ℕ) (f : Function) → callee names name ≡ OfProgram f →
      function_numbered names f.number ≡ Some f
  pub parameters : (number : ℕ) (f : Function) → function_numbered names number ≡ Some f →
      (i : ℕ) (p : Param) → slice_get f.parameters i ≡ Some p →
      IsAmong (variable_of_parameter f.number f.file p) names.variables

-- the cells of a function's parameters
abbrev pub parameter_slots : Names → Function → List ℕ
parameter_slots names f = map (λ p. slot names (record { owner = f.number; name = p.name })) f.parameters

-- The tables of a typed program are those of a source's names: the kinds of its cells, the units of its
-- timers, and the parameters of its functions. The functions stand in an order of their own, which is given
-- by their numbers in the source.
pub record Fits (names : Names) (order : List ℕ) (program : Typed) : Type 0 where
  pub kinds : program.cells ≡ event_kinds ++ laid_kinds names
  pub timers : program.timers ≡ timer_units names
  pub functions : (k number : ℕ) → slice_get order k ≡ Some number → (f : Function) ×
      (function_numbered names number ≡ Some f) × (typed.params_of program k ≡ parameter_slots names f)

-- ---- runs of both

-- each call of a typed function does what the call of the source's function does
abbrev pub SameCalls :
    Names → List ℕ → This → Calls source.Memory → Calls cells.Memory → Type 0
SameCalls names order this call typed_call = (k number : ℕ) → slice_get order k ≡ Some number →
    (w : World source.Memory) → typed_call k (laid names this w) ≡ laid_run names this (call number w)

-- A run of a source's program beside one of its typed program: with the same `this`, at the same moment,
-- after the measurement has ended or not, and with calls that do the same.
pub record Beside (names : Names) (order : List ℕ) : Type 0 where
  pub plain : ArePlain names
  pub program : Typed
  pub fits : Fits names order program
  pub this : This
  pub closed : Bool
  pub moment : ℕ
  pub call : Calls source.Memory
  pub typed_call : Calls cells.Memory
  pub same_calls : SameCalls names order this call typed_call

-- the setting of the source, where a part of it stands
abbrev pub source_setting : {names : Names} {order : List ℕ} → Beside names order → Scope → source.Setting
source_setting b scope =
    record { scope = scope; this = b.this; closed = b.closed; moment = b.moment }

-- the setting of the typed program
abbrev pub typed_setting : {names : Names} {order : List ℕ} → Beside names order → typed.Setting
typed_setting b = record { typed = b.program; closed = b.closed; moment = b.moment }

-- two computations give the same, from each world and the world that it is laid out in
abbrev pub SameNumber : Names → This → Computes source.Memory → Computes cells.Memory → Type 0
SameNumber names this one other =
    (w : World source.Memory) → other (laid names this w) ≡ laid_run names this (one w)

-- two statements do the same
abbrev pub SameEnd : Names → This → Does source.Memory → Does cells.Memory → Type 0
SameEnd names this one other =
    (w : World source.Memory) → other (laid names this w) ≡ laid_run names this (one w)

-- ---- expressions

-- a typed expression gives the number that an expression gives
pub record GivesAs (scope : Scope) (order : List ℕ) (e : Expr) (t : TExpr) : Type 0 where
  pub same : (b : Beside scope.names order) → SameNumber scope.names b.this
      (source.value_of (source_setting b scope) b.call e) (typed.value_of (typed_setting b) b.typed_call t)

-- where a run gives places that are so, a typed place is the same place in cells; where there is no typed
-- place, it gives none
abbrev pub SamePlace : {names : Names} {order : List ℕ} → Beside names order → (source.Spot → Type 0) →
    (World source.Memory → Run source.Memory source.Spot) → Option Place → Type 0
SamePlace b Holds spot None = (w : World source.Memory) → spot w ≡ Gives source.Nowhere w
SamePlace {names} b Holds spot (Some place) = (w : World source.Memory) →
    (typed.spot_of (typed_setting b) b.typed_call place (laid names b.this w) ≡
    mapped names b.this (laid_spot names) (spot w)) ×
    GivesOnly Holds (spot w)

-- a typed place is the place that an expression is; or there is none and it is none
pub record StandsAs (scope : Scope) (order : List ℕ) (e : Expr) (place : Option Place) : Type 0 where
  pub same : (b : Beside scope.names order) → SamePlace b (IsReal scope.names)
      (source.spot_of (source_setting b scope) b.call e) place

-- the same, of a place that is stored to
pub record AssignsAs (scope : Scope) (order : List ℕ) (e : Expr) (place : Option Place) : Type 0 where
  pub same : (b : Beside scope.names order) →
      SamePlace b (λ spot. IsReal scope.names spot × IsOpen spot)
      (source.place_spot (source_setting b scope) e (source.spot_of (source_setting b scope) b.call e)) place

-- ---- statements

-- each thing in a list stands at the same place in another
abbrev pub StandIn : {A : Type 0} → List A → List A → Type 0
StandIn {A} few many = (i : ℕ) (a : A) → slice_get few i ≡ Some a → slice_get many i ≡ Some a

-- a typed statement, in a program that has these formats, does what a statement does
pub record DoesAs (scope : Scope) (order : List ℕ) (formats : List FormatText) (s : Stmt) (t : TStmt)
    : Type 0 where
  pub same : (b : Beside scope.names order) → StandIn formats b.program.formats → (n : ℕ) →
      SameEnd scope.names b.this (source_statement.stmt_of (source_setting b scope) b.call n s)
      (typed_statement.stmt_of (typed_setting b) b.typed_call n t)

-- a typed statement does what an expression does that stands alone, as a statement or as the first or third
-- part of a `for`
pub record AloneDoesAs (scope : Scope) (order : List ℕ) (formats : List FormatText) (e : Expr) (t : TStmt)
    : Type 0 where
  pub same : (b : Beside scope.names order) → StandIn formats b.program.formats → (n : ℕ) →
      SameEnd scope.names b.this (source_statement.alone_of (source_setting b scope) b.call e)
      (typed_statement.stmt_of (typed_setting b) b.typed_call n t)

-- whether a call that stands alone does what it is for, in place of what it does as an expression
abbrev pub is_for_effect : Callee → List Expr → Bool
is_for_effect (OfLanguage builtin.Output) (message ∷ []) = true
is_for_effect (OfLanguage builtin.Write) (format ∷ arguments) = true
is_for_effect (OfLanguage builtin.SetTimer) (timer ∷ duration ∷ []) = true
is_for_effect (OfLanguage builtin.SetTimerCyclic) (timer ∷ duration ∷ []) = true
is_for_effect (OfLanguage builtin.CancelTimer) (timer ∷ []) = true
is_for_effect (OfLanguage builtin.Stop) [] = true
is_for_effect _ _ = false

-- whether an assignment that stands alone copies a message
abbrev pub is_copy : Option Held → Option Held → Bool
is_copy (Some (HeldVariable v signals)) (Some from) = true
is_copy _ _ = false

-- whether an expression that stands alone does what it does as an expression, by its form
abbrev pub is_evaluated : Expr → Bool
is_evaluated (tree.Paren inner at) = false
is_evaluated (expr.Call' name shape args at) = false
is_evaluated (tree.Assign None left right at) = false
is_evaluated _ = true

-- the timer that the only one of arguments names, if there is one
abbrev pub timer_given : Scope → List Expr → Option Variable
timer_given scope (e ∷ []) = source.timer_in scope e
timer_given scope _ = None

-- the array that the only one of arguments names, if there is one
abbrev pub array_given : Scope → List Expr → Option Variable
array_given scope (e ∷ []) = array_in scope e
array_given scope _ = None

-- a function of the language gives 0 for these arguments
abbrev pub GivesZero : Scope → Builtin → List Expr → Type 0
GivesZero scope builtin.IsTimerActive args = timer_given scope args ≡ None
GivesZero scope builtin.ElCount args = array_given scope args ≡ None
GivesZero scope builtin.TimeNow args = ⊥
GivesZero scope found args = ⊤

-- two parts that may be missing are there together, and then go with each other
abbrev pub Both : {A B : Type 0} → (A → B → Type 0) → Option A → Option B → Type 0
Both R None None = ⊤
Both R (Some a) (Some b) = R a b
Both R _ _ = ⊥

-- a typed arm of an `if` does what an arm does
pub record ArmDoesAs (scope : Scope) (order : List ℕ) (formats : List FormatText) (arm : Arm) (t : TArm)
    : Type 0 where
  pub test : GivesAs scope order arm.test t.test
  pub body : DoesAs scope order formats arm.body t.body

-- a typed group of a `switch` does what a group does, and has its labels in a kind
pub record GroupDoesAs (scope : Scope) (order : List ℕ) (formats : List FormatText) (k : Kind)
    (group : Group) (t : TGroup) : Type 0 where
  pub labels : t.labels ≡
      filter_map (λ label. source_rules.label_of scope k label.at label.value) group.labels
  pub body : AllZip (DoesAs scope order formats) group.body t.body

-- what is known of an argument of `write` before the run is what it is: a number of its kind, the cells of
-- the array that it names, or its text
abbrev pub IsArgument : Scope → Expr → ArgKind → Type 0
IsArgument scope e (argument.Number k) = sort_of scope e ≡ sort.Number k
IsArgument scope e (argument.Chars base len) = (v : Variable) × (array_in scope e ≡ Some v) ×
    (is_number (sort_of scope e) ≡ false) × (quoted_text e ≡ None) ×
    (AreDistinct scope.names.variables → base ≡ slot scope.names (variable_key v)) ×
    (len ≡ elements_of scope.names v)
IsArgument scope e (argument.Str text) = (is_number (sort_of scope e) ≡ false) × (quoted_text e ≡ Some text)

-- ---- programs

-- the functions of a typed program do what those of the source do, by their numbers in the source
pub record FunctionsDoAs (names : Names) (order : List ℕ) (program : Typed) : Type 0 where
  pub bodies : (k number : ℕ) (f : Function) → slice_get order k ≡ Some number →
      function_numbered names number ≡ Some f →
      AllZip (DoesAs (inside_function names f) order program.formats) f.body (body_of program k)

-- an event procedure of a typed program does what one of the source does
pub record HandlerDoesAs (order : List ℕ) (formats : List FormatText) (handler : Handler)
    (typed_handler : THandler) : Type 0 where
  pub event : typed_handler.event ≡ handler.event
  pub file : typed_handler.file ≡ handler.file
  pub body : AllZip (DoesAs handler.scope order formats) handler.body typed_handler.body

-- a typed program does what a source does: its tables are those of the source's names, its starts make the
-- first store, and its functions and event procedures, which stand in program order, do what those of the
-- source do
pub record ProgramDoesAs (base : List DbcMessage) (program : Program) (typed_program : Typed) : Type 0 where
  pub order : List ℕ
  pub fits : Fits (names_of base program) order typed_program
  pub starts : StartsAs (names_of base program) typed_program
  pub functions : FunctionsDoAs (names_of base program) order typed_program
  pub handlers : AllZip (HandlerDoesAs order typed_program.formats)
      (handlers_in base program) typed_program.handlers

-- how an event procedure ends, with its memory laid out
abbrev pub laid_ending : Names → This → source_statement.Ending → typed_procedure.Ending
laid_ending names this e = record {
  memory = laid_memory names this e.memory;
  turns_taken = e.turns_taken;
  effects = e.effects;
  outcome = e.outcome;
}
