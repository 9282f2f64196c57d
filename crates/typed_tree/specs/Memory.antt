-- The memory of a typed program, and reading and storing in it (CAPL manual, variables, message variables,
-- signals). In a sound program each cell that is named is there, and what these say elsewhere is of no use.
use Rattle.std.specs.Prelude.{ℕ, ◌+◌, Bool, List, slice_index_or, slice_set, slice_get, unwrap_or, ℤ, pos}
use Rattle.int_kinds.specs.declared.kinds.Kind.{Kind}
use Rattle.int_kinds.specs.declared.kinds.Kind.TheVariants.{Long}
use Rattle.int_kinds.specs.Kind.{wrap}
use Rattle.signal_codec.specs.declared.layout.Layout.{Layout}
use Rattle.signal_codec.specs.Signal.{payload_with, signal_value}
use Rattle.control_flow.specs.World.{World}
use Rattle.message_cells.specs.Message.{bytes_of, message_of, number_at, payload_of, with_bytes, write_rules, written_can}

-- the numbers in the cells, and which timers are active
pub record Memory : Type 0 where
  pub cells : List ℤ
  pub active : List Bool

-- the world with other cells
abbrev pub with_cells : List ℤ → World Memory → World Memory
with_cells cells w = record w { memory = record w.memory { cells = cells } }

-- the world in which a timer is active or not
abbrev pub with_timer : ℕ → Bool → World Memory → World Memory
with_timer timer active w =
    record w { memory = record w.memory { active = slice_set w.memory.active timer active } }

-- a place whose index was evaluated: a cell; a field of the message at a cell, by its number; a number of
-- some kind in that message's payload, from one of its bytes on; a signal of the message
pub data Spot : Type 0 where
  InCell : ℕ → Spot
  InField : ℕ → ℕ → Spot
  InBytes : ℕ → Kind → ℕ → Spot
  InSignal : ℕ → Layout → Spot

-- the kind of a cell
abbrev pub kind_of : List Kind → ℕ → Kind
kind_of kinds cell = slice_index_or kinds cell Long

-- the number in a cell
abbrev pub cell_of : List ℤ → ℕ → ℤ
cell_of cells cell = slice_index_or cells cell (pos 0)

-- the payload of the message at a cell
abbrev pub payload_at : List ℤ → ℕ → List ℕ
payload_at cells at = payload_of (message_of at cells)

-- what the write rule of a field makes of a number
abbrev pub written_field : ℕ → ℤ → ℤ
written_field field n = pos (unwrap_or (slice_get write_rules field) written_can n)

-- the number at a spot
abbrev pub read : Spot → List ℤ → ℤ
read (InCell cell) cells = cell_of cells cell
read (InField at field) cells = cell_of cells (at + field)
read (InBytes at k i) cells = number_at k i (payload_at cells at)
read (InSignal at l) cells = signal_value l (payload_at cells at)

-- the cells once a number is stored at a spot: wrapped to the spot's kind, or by the field's write rule
abbrev pub write : List Kind → Spot → ℤ → List ℤ → List ℤ
write kinds (InCell cell) n cells = slice_set cells cell (wrap (kind_of kinds cell) n)
write kinds (InField at field) n cells = slice_set cells (at + field) (written_field field n)
write kinds (InBytes at k i) n cells = with_bytes at i (bytes_of k n) cells
write kinds (InSignal at l) n cells = with_bytes at 0 (payload_with l (payload_at cells at) n) cells
