-- The cells of a program, as they count towards its limit. The limit and the count are this project's own.
use Rattle.std.specs.Prelude.{ℕ, ◌+◌, ◌-◌, length}
use Rattle.typed_tree.specs.declared.program.Typed.{Typed}

-- how many cells a typed program has: all but the first 15, which are the event's, and one for each timer
abbrev pub cell_count : Typed → ℕ
cell_count typed = length typed.cells - 15 + length typed.timers
