-- The typed program of a source: its functions, event procedures and tables.
use Rattle.std.specs.Prelude.{◌≡◌, ◌≢◌, ℕ, suc, ◌+◌, ◌<◌, List, [], ◌∷◌, ◌++◌, flat_map, length, slice_get, Option, Some, None, All, AllPairs, Contains, ℤ, pos, if◌then◌else◌}
use Rattle.std.specs.Ordering.{int_eq}
use Rattle.write_format.specs.Line.{FormatText}
use Rattle.dbc_reader.specs.declared.message.DbcMessage.{DbcMessage}
use Rattle.capl_tree.specs.declared.file.Program.{Program}
use Rattle.capl_tree.specs.declared.statement.Stmt.{Stmt}
use Rattle.typed_tree.specs.declared.program.TFun.{TFun}
use Rattle.typed_tree.specs.declared.program.THandler.{THandler}
use Rattle.typed_tree.specs.declared.program.Typed.{Typed}
use Rattle.typed_tree.specs.declared.statement.TStmt.{TStmt}
use Rattle.capl_meaning.specs.Names.{Function, Names, Scope, inside_function, names_of}
use Rattle.capl_meaning.specs.Calls.{called_by_number, function_numbered}
use Rattle.capl_meaning.specs.Store.{event_kinds, laid_kinds, lay, timer_units}
use Rattle.capl_meaning.specs.Initial.{first_store}
use Rattle.capl_meaning.specs.Statement.{Handler, handlers_in}
use Rattle.typed_laws.specs.Agreement.{parameter_slots}
use Rattle.typed_source.specs.Statement.{formats_of, statement_of}

-- ---- the order of functions

-- each function of the program stands in the order, by its number in the source
abbrev pub HasEach : Names → List ℕ → Type 0
HasEach names order =
    (number : ℕ) (f : Function) → function_numbered names number ≡ Some f → Contains order number

-- only functions of the program stand in the order
abbrev pub HasNoOther : Names → List ℕ → Type 0
HasNoOther names order = (k number : ℕ) → slice_get order k ≡ Some number →
    (f : Function) × (function_numbered names number ≡ Some f)

-- a function stands in the order before another
abbrev pub IsBefore : List ℕ → ℕ → ℕ → Type 0
IsBefore order one other =
    (i j : ℕ) → slice_get order i ≡ Some one → slice_get order j ≡ Some other → i < j

-- An order of functions is good: it has each function of the program, once, and nothing else, and the
-- functions that one calls stand before it.
pub record IsGoodOrder (names : Names) (order : List ℕ) : Type 0 where
  pub has_each : HasEach names order
  pub has_no_other : HasNoOther names order
  pub once : AllPairs (λ one other. one ≢ other) order
  pub calls_earlier : (number : ℕ) →
      All (λ called. IsBefore order called number) (called_by_number names number)

-- ---- procedures

-- the formats of a body
abbrev pub formats_of_body : Scope → List Stmt → List FormatText
formats_of_body s body = flat_map (formats_of s) body

-- the typed trees of the statements of a body, where so many formats stand before its own
abbrev pub body_of : Scope → List ℕ → ℕ → List Stmt → List TStmt
body_of s order before [] = []
body_of s order before (first ∷ rest) =
    statement_of s order before first ∷ body_of s order (before + length (formats_of s first)) rest

-- the formats of a function
abbrev pub formats_of_function : Names → Option Function → List FormatText
formats_of_function names None = []
formats_of_function names (Some f) = formats_of_body (inside_function names f) f.body

-- a function; a number that no function has is none of a good order
abbrev pub function_of : Names → List ℕ → ℕ → Option Function → TFun
function_of names order before None = record { params = []; gives = None; body = [] }
function_of names order before (Some f) = record {
  params = parameter_slots names f;
  gives = f.gives;
  body = body_of (inside_function names f) order before f.body;
}

-- the formats of the functions of some numbers
abbrev pub formats_of_functions : Names → List ℕ → List FormatText
formats_of_functions names numbers =
    flat_map (λ number. formats_of_function names (function_numbered names number)) numbers

-- the functions of some numbers
abbrev pub functions_of : Names → List ℕ → ℕ → List ℕ → List TFun
functions_of names order before [] = []
functions_of names order before (number ∷ rest) =
    function_of names order before (function_numbered names number)
    ∷ functions_of names order
    (before + length (formats_of_function names (function_numbered names number))) rest

-- an event procedure, with the line of its first word, by the lines of the tokens of each file
abbrev pub handler_of : List ℕ → (ℕ → ℕ → ℕ) → ℕ → Handler → THandler
handler_of order line before h = record {
  event = h.event;
  body = body_of h.scope order before h.body;
  file = h.file;
  line = line h.file h.token;
}

-- the formats of event procedures
abbrev pub formats_of_handlers : List Handler → List FormatText
formats_of_handlers handlers = flat_map (λ h. formats_of_body h.scope h.body) handlers

-- event procedures
abbrev pub typed_handlers : List ℕ → (ℕ → ℕ → ℕ) → ℕ → List Handler → List THandler
typed_handlers order line before [] = []
typed_handlers order line before (h ∷ rest) =
    handler_of order line before h
    ∷ typed_handlers order line (before + length (formats_of_body h.scope h.body)) rest

-- ---- programs

-- cells from one on, with the numbers in them that are not 0
abbrev pub starts_from : ℕ → List ℤ → List (ℕ × ℤ)
starts_from cell [] = []
starts_from cell (n ∷ ns) =
    if int_eq n (pos 0) then starts_from (suc cell) ns else (cell, n) ∷ starts_from (suc cell) ns

-- The typed program of a source with a database, where its functions stand in this order, and these are the
-- lines of the tokens of its files. The formats of the functions stand before those of the event procedures.
abbrev pub typed_program : List DbcMessage → Program → List ℕ → (ℕ → ℕ → ℕ) → Typed
typed_program base program order line =
    let names : Names = names_of base program in
    let handlers : List Handler = handlers_in base program in
    let formats : List FormatText = formats_of_functions names order in
    record {
      functions = functions_of names order 0 order;
      handlers = typed_handlers order line (length formats) handlers;
      cells = event_kinds ++ laid_kinds names;
      starts = starts_from 15 (lay names (first_store names));
      timers = timer_units names;
      formats = formats ++ formats_of_handlers handlers;
    }
