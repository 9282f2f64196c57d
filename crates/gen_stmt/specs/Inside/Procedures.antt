-- Procedures, as lists.
use Rattle.std.specs.Prelude.{ℕ, false, is_some}
use Rattle.bytecode.specs.declared.code.Fun.{Fun}
use Rattle.typed_tree.specs.declared.program.TFun.{TFun}
use Rattle.typed_tree.specs.declared.program.THandler.{THandler}
use Rattle.typed_tree.specs.declared.program.Typed.{Typed}
use Rattle.code_listing.specs.Program.{Procedure, place_behind}

-- a function as a procedure
abbrev pub of_function : TFun → Procedure
of_function function = record { gives = is_some function.gives; body = function.body }

-- an event procedure
abbrev pub of_handler : THandler → Procedure
of_handler handler = record { gives = false; body = handler.body }

-- the entry of a procedure at a place
abbrev pub entry_of : Typed → Procedure → ℕ → Fun
entry_of typed procedure place =
    record { start = place; end = place_behind typed procedure place; gives = procedure.gives }
