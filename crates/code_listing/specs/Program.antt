-- The code of procedures, and of a whole program: its functions in order, and behind them its event
-- procedures, each of which is a function of the code with a number of its own.
use Rattle.std.specs.Prelude.{◌≡◌, ℕ, ◌+◌, Bool, true, false, List, [], ◌∷◌, ◌++◌, length, map, sum_by, is_some, pos}
use Rattle.bytecode.specs.declared.code.Code.{Code}
use Rattle.bytecode.specs.declared.code.Fun.{Fun}
use Rattle.bytecode.specs.declared.code.Handler.{Handler}
use Rattle.bytecode.specs.declared.instr.Instr.TheVariants.{Push, Ret}
use Rattle.typed_tree.specs.declared.program.THandler.{THandler}
use Rattle.typed_tree.specs.declared.program.Typed.{Typed}
use Rattle.typed_tree.specs.declared.statement.TStmt.{TStmt}
use Rattle.typed_tree.specs.Shape.{body_goes_on}
use Rattle.typed_tree.specs.Size.{procedure_size, stmt_size}
use Rattle.code_listing.specs.Listing.{Listing}
use Rattle.code_listing.specs.Statement.{Exits, stmt_code}

-- the code of the statements of a procedure
abbrev pub body_code : Typed → Exits → List TStmt → ℕ → Listing
body_code typed exits [] place = []
body_code typed exits (s ∷ rest) place =
    stmt_code typed exits s place ++ body_code typed exits rest (place + stmt_size typed s)

-- the end of a procedure, where control may come to it: it returns, with 0 where it gives a number
abbrev pub tail_code : Bool → Bool → Listing
tail_code gives false = []
tail_code false true = (Ret, 0) ∷ []
tail_code true true = (Push (pos 0), 0) ∷ (Ret, 1) ∷ []

-- a procedure: whether it gives a number, and its statements
pub record Procedure : Type 0 where
  pub gives : Bool
  pub body : List TStmt

-- the code of a procedure; a `break` or `continue` outside of a loop, which no sound program has, leads to
-- the end of the statements
abbrev pub procedure_code : Typed → Procedure → ℕ → Listing
procedure_code typed procedure place =
    let end : ℕ = place + sum_by (stmt_size typed) procedure.body in
    body_code typed (record { break_at = end; continue_at = end }) procedure.body place ++
    tail_code procedure.gives (body_goes_on true procedure.body)

-- the place behind a procedure that begins at a place
abbrev pub place_behind : Typed → Procedure → ℕ → ℕ
place_behind typed procedure place = place + procedure_size typed procedure.gives procedure.body

-- the code of procedures, one behind the other
abbrev pub procedures_code : Typed → List Procedure → ℕ → Listing
procedures_code typed [] place = []
procedures_code typed (procedure ∷ rest) place =
    procedure_code typed procedure place ++
    procedures_code typed rest (place_behind typed procedure place)

-- the places of procedures, one behind the other, and whether each gives a number
abbrev pub function_table : Typed → List Procedure → ℕ → List Fun
function_table typed [] place = []
function_table typed (procedure ∷ rest) place =
    record { start = place; end = place_behind typed procedure place; gives = procedure.gives } ∷
    function_table typed rest (place_behind typed procedure place)

-- the event procedures, the first of which is the function of this number
abbrev pub handler_table : List THandler → ℕ → List Handler
handler_table [] number = []
handler_table (handler ∷ rest) number =
    record { event = handler.event; function = number; file = handler.file; line = handler.line } ∷
    handler_table rest (number + 1)

-- the procedures of a program: its functions, and then its event procedures, which give nothing
abbrev pub procedures_of : Typed → List Procedure
procedures_of typed =
    map (λ function. record { gives = is_some function.gives; body = function.body }) typed.functions ++
    map (λ handler. record { gives = false; body = handler.body }) typed.handlers

-- the code of a program
abbrev pub program_code : Typed → Listing
program_code typed = procedures_code typed (procedures_of typed) 0

-- code is that of a typed program, with its tables
pub record IsCodeOf (typed : Typed) (code : Code) : Type 0 where
  pub instrs : code.instrs ≡ map (λ x. x.0) (program_code typed)
  pub depths : code.depths ≡ map (λ x. x.1) (program_code typed)
  pub functions : code.functions ≡ function_table typed (procedures_of typed) 0
  pub handlers : code.handlers ≡ handler_table typed.handlers (length typed.functions)
  pub cells : code.cells ≡ typed.cells
  pub starts : code.starts ≡ typed.starts
  pub timers : code.timers ≡ typed.timers
  pub formats : code.formats ≡ typed.formats
