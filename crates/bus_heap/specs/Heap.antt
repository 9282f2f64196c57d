-- The order in which a heap shows its requests.
use Rattle.std.specs.Prelude.{ℕ, ◌-◌, ◌/◌, ◌<◌, List, length}
use Rattle.std.specs.List.{slice_index_or}
use Rattle.can_bus.specs.declared.waiting.Waiting.{Waiting}
use Rattle.can_bus.specs.Waiting.{GoesBefore}

-- the request at (place - 1) / 2 goes before the one at the place, for each place but the first
abbrev pub IsInHeapOrder : List Waiting → Type 0
IsInHeapOrder rs =
    (place : ℕ) (d : Waiting) → 0 < place → place < length rs
    → GoesBefore (slice_index_or rs ((place - 1) / 2) d) (slice_index_or rs place d)
