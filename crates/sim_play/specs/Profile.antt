-- The profile of a run: how often each event procedure ran, and how many turns it took.
use Rattle.std.specs.Prelude.{ℕ, ◌+◌, List, [], ◌∷◌, ◌++◌}
use Rattle.bytecode.specs.declared.code.Handler.{Handler}
use Rattle.stack_vm.specs.declared.meter.MeterRow.{MeterRow}
use Rattle.node_run.specs.Node.{NodeInRound}
use Rattle.sim_text.specs.Lines.{profile_line}
use Rattle.sim_play.specs.Show.{file_of}

-- the lines of handlers, the first of which has the row of a number
abbrev pub handler_lines : List ℕ → List (List ℕ) → (ℕ → MeterRow) → ℕ → List Handler → List ℕ
handler_lines name files row number [] = []
handler_lines name files row number (handler ∷ handlers) =
    profile_line name (file_of files handler.file) handler.line handler.event (row number)
    ++ handler_lines name files row (number + 1) handlers

-- the lines of nodes, each under its name
abbrev pub profile_of : List (List ℕ) → List (List (List ℕ)) → (ℕ → MeterRow) → List NodeInRound → List ℕ
profile_of (name ∷ names) (files ∷ others) row (node ∷ nodes) =
    handler_lines name files row node.first_row node.doing.node.memory.code.handlers
    ++ profile_of names others row nodes
profile_of _ _ row _ = []
