-- What the parts of a source are asked for, so that their typed trees are sound.
use Rattle.std.specs.Prelude.{◌≡◌, ℕ, false, List, [], is_some, All}
use Rattle.std.specs.List.{AllByRecursion}
use Rattle.capl_tree.specs.declared.statement.Stmt.{Stmt}
use Rattle.capl_tree.specs.declared.file.Program.{Program}
use Rattle.capl_tree.specs.Grammar.{IsBodyPart, IsFile}
use Rattle.typed_tree.specs.declared.program.Typed.{Typed}
use Rattle.typed_tree.specs.SoundStatement.{Around}
use Rattle.capl_meaning.specs.Variable.{Misfit, Variable}
use Rattle.capl_meaning.specs.Names.{Function, Names, OfProgram, Scope, callee}
use Rattle.capl_meaning.specs.Calls.{names_called}
use Rattle.capl_meaning.specs.StatementRules.{in_body, statement_offences}
use Rattle.typed_laws.specs.Laid.{HasForm}
use Rattle.typed_source.specs.Sound.{HasTables, IsCallable}
use Rattle.typed_source.specs.Statement.{StandFrom, formats_of}
use Rattle.sound_programs.specs.Small.{IsShortList, IsSmallProgram, IsSmallStmt}

-- no variable is an array of messages or timers
abbrev pub HaveForms : Names → Type 0
HaveForms names = (v : Variable) → HasForm names v Misfit → ⊥

-- each function of the program that is called by one of these names stands before the procedure of a number
abbrev pub AreCallable : Names → List ℕ → Typed → ℕ → List (List ℕ) → Type 0
AreCallable names order typed number called = AllByRecursion (λ name. (f : Function) →
    callee names name ≡ OfProgram f → IsCallable order typed number f) called

-- what the body of the procedure of a number stands in
abbrev pub in_procedure : ℕ → Scope → Around
in_procedure number s =
    record { number = number; gives = is_some s.gives; breakable = false; continuable = false }

-- a statement of the body of the procedure of a number stands in a program, with so many formats before
-- its own: it is well formed and small and breaks no rule, the functions that it calls stand before the
-- procedure, and the typed program has its formats
pub record StandsIn (s : Scope) (order : List ℕ) (typed : Typed) (number before : ℕ) (statement : Stmt) :
    Type 0 where
  pub well_formed : IsBodyPart statement
  pub small : IsSmallStmt statement
  pub callable : AreCallable s.names order typed number (names_called statement)
  pub formats : StandFrom before (formats_of s statement) typed.formats
  pub no_offence : statement_offences s in_body statement ≡ []

-- the trees of a program are well formed and small
pub record IsReadable (program : Program) : Type 0 where
  pub well_formed : All IsFile program.files
  pub small : IsSmallProgram program

-- the lists of a typed program that its cells do not bound have fewer than 2^32 items
pub record HasShortLists (typed : Typed) : Type 0 where
  pub functions : IsShortList typed.functions
  pub handlers : IsShortList typed.handlers
  pub formats : IsShortList typed.formats
