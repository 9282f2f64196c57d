-- Programs that ask for no frame and not to stop (CAPL manual, output, stop).
use Rattle.std.specs.Prelude.{ℕ, ◌≢◌, List, [], All, codes}
use Rattle.std.specs.List.{flat_map}
use Rattle.capl_tree.specs.declared.file.Program.{Program}
use Rattle.capl_tree.specs.declared.statement.Stmt.{Stmt}
use Rattle.capl_meaning.specs.Calls.{names_called}
use Rattle.capl_meaning.specs.Variable.{Globals, Part, Procedure, parts_of}

-- the statements of a part of a program, if it is a procedure
abbrev pub body_of : Part → List Stmt
body_of (Globals file declarations) = []
body_of (Procedure number file procedure) = procedure.body

-- the names that a part of a program calls, if it is a procedure
abbrev pub called_by_part : Part → List (List ℕ)
called_by_part part = flat_map names_called (body_of part)

-- the names that the procedures of a program call
abbrev pub called_in : Program → List (List ℕ)
called_in program = flat_map called_by_part (parts_of program)

-- no procedure of a program has a call of `output` or of `stop`
abbrev pub IsSilent : Program → Type 0
IsSilent program = All (λ name. (name ≢ codes "output") × (name ≢ codes "stop")) (called_in program)
