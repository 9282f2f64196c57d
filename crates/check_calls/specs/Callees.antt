-- The functions that are called by names, and functions by their places among those of a program.
use Rattle.std.specs.Prelude.{ℕ, List, flat_map, filter_map, map, slice_get, Option, Some, None}
use Rattle.capl_tree.specs.declared.statement.Stmt.{Stmt}
use Rattle.capl_meaning.specs.Calls.{names_called}
use Rattle.capl_meaning.specs.Names.{Callee, Function, Names, OfProgram, callee}

-- the function of the program that a call is of
abbrev pub function_called : Callee → Option Function
function_called (OfProgram f) = Some f
function_called _ = None

-- the functions of the program that are called by these names
abbrev pub called : Names → List (List ℕ) → List Function
called names all = filter_map (λ name. function_called (callee names name)) all

-- the same, as they are found by places
unfoldable pub callees : Names → List (List ℕ) → List (Option Function)
callees names all = map (λ f. Some f) (called names all)

-- the functions of a program at these places
unfoldable pub functions_at : Names → List ℕ → List (Option Function)
functions_at names places = map (slice_get names.functions) places

-- the names that are called in statements
abbrev pub calls_of_all : List Stmt → List (List ℕ)
calls_of_all statements = flat_map names_called statements
