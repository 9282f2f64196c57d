-- The profile of a run, with rows that are counted up from node to node.
use Rattle.std.specs.Prelude.{ℕ, ◌+◌, List, [], ◌∷◌, ◌++◌, length, map, slice_get}
use Rattle.std.specs.List.{sum_by}
use Rattle.std.specs.Option.{unwrap_or}
use Rattle.bytecode.specs.declared.code.Handler.{Handler}
use Rattle.stack_vm.specs.declared.meter.MeterRow.{MeterRow}
use Rattle.node_run.specs.Node.{NodeInRound}
use Rattle.sim_text.specs.Lines.{profile_line}
use Rattle.sim_play.specs.Show.{file_of}
use Rattle.sim_play.specs.Profile.{handler_lines}
use Rattle.sim_play.specs.declared.labels.Labels.{Labels}
use Rattle.sim_play.specs.declared.labels.Show.{Show}
use Rattle.sim_play.specs.declared.labels.Show.TheVariants.{Profile}

-- the event procedures of each node
abbrev pub handlers_of : List NodeInRound → List (List Handler)
handlers_of nodes = map (λ node. node.doing.node.memory.code.handlers) nodes

-- how many rows they have
abbrev pub row_count : List (List Handler) → ℕ
row_count handlers = sum_by length handlers

-- the row of a number in a meter, and one of zeros past its end
abbrev pub row_in : List MeterRow → ℕ → MeterRow
row_in meter number = unwrap_or (slice_get meter number) (record { runs = 0; turns = 0 })

-- the line of an event procedure with this row
abbrev pub handler_line : List ℕ → List (List ℕ) → MeterRow → Handler → List ℕ
handler_line name files row handler =
    profile_line name (file_of files handler.file) handler.line handler.event row

-- the lines of the event procedures of each node, the first of which has the row of a number
abbrev pub lines_from : List (List ℕ) → List (List (List ℕ)) → (ℕ → MeterRow) → ℕ → List (List Handler)
    → List ℕ
lines_from (name ∷ names) (files ∷ others) row number (own ∷ handlers) =
    handler_lines name files row number own ++ lines_from names others row (number + length own) handlers
lines_from _ _ row number _ = []

-- the profile, where it is asked for
abbrev pub counted_last : Show → Labels → (ℕ → MeterRow) → List (List Handler) → List ℕ
counted_last Profile labels counts handlers = lines_from labels.names labels.files counts 0 handlers
counted_last _ labels counts handlers = []
