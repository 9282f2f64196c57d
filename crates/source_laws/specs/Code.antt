-- The code of a source, and the tables that it has.
use Rattle.std.specs.Prelude.{◌≡◌, ◌≤◌, ℕ, List, ◌++◌, length, replicate, pos}
use Rattle.std.specs.List.{AllZip}
use Rattle.dbc_reader.specs.declared.message.DbcMessage.{DbcMessage}
use Rattle.capl_tree.specs.declared.file.Program.{Program}
use Rattle.capl_tree.specs.Weight.{weight}
use Rattle.bytecode.specs.declared.code.Code.{Code}
use Rattle.bytecode.specs.declared.code.Handler.{Handler}
use Rattle.stack_vm.specs.Memory.{with_starts}
use Rattle.typed_tree.specs.declared.program.Typed.{Typed}
use Rattle.code_listing.specs.Program.{IsCodeOf}
use Rattle.capl_meaning.specs.Names.{names_of}
use Rattle.capl_meaning.specs.Store.{event_kinds, laid_kinds, lay, timer_units}
use Rattle.capl_meaning.specs.Initial.{first_store}
use Rattle.capl_meaning.specs.Statement as source
use Rattle.capl_meaning.specs.Statement.{handlers_in}
use Rattle.check_types.specs.Accepted.{IsAccepted}
use Rattle.check_types.specs.Lines.{line_in}

-- A program with a database is accepted, where these are the lines of the tokens of its files, and this is
-- the code of its typed program.
pub record IsSourceCode (base : List DbcMessage) (program : Program) (lines : List (List ℕ)) (code : Code) :
    Type 0 where
  pub typed : Typed
  pub accepted : IsAccepted base program lines typed
  pub code_is : IsCodeOf typed code

-- an event procedure of code is one of a source: it has its event and file, and the line of its first token
pub record IsEntryOf (lines : List (List ℕ)) (handler : source.Handler) (entry : Handler) : Type 0 where
  pub event : entry.event ≡ handler.event
  pub file : entry.file ≡ handler.file
  pub line : entry.line ≡ line_in lines handler.file handler.token

-- The tables of code are those of a source. It has the event procedures in program order, the kinds of the
-- event's cells and then of the variables', the units of the timers, and starts that make the first store
-- behind event cells of 0; and no more instructions than the source's weight.
pub record HasSourceTables (base : List DbcMessage) (program : Program) (lines : List (List ℕ)) (code : Code)
    : Type 0 where
  pub handlers : AllZip (IsEntryOf lines) (handlers_in base program) code.handlers
  pub cells : code.cells ≡ event_kinds ++ laid_kinds (names_of base program)
  pub starts : with_starts (replicate (length code.cells) (pos 0)) code.starts ≡
      replicate 15 (pos 0) ++ lay (names_of base program) (first_store (names_of base program))
  pub timers : code.timers ≡ timer_units (names_of base program)
  pub few : length code.instrs ≤ weight program
