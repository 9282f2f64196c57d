-- The memory of a node's runs.
use Rattle.std.specs.Prelude.{ℕ, ◌≤◌, Bool, List, [], ◌∷◌, length, ℤ, slice_set}
use Rattle.bytecode.specs.declared.code.Code.{Code}
use Rattle.bytecode.specs.Machine.{Machine}
use Rattle.bytecode.specs.Runs.{HoldKinds, IsStartOf, Reaches}
use Rattle.bytecode.specs.Verified.{IsVerified}
use Rattle.stack_vm.specs.Cases.{IsIndexOf}

-- the cells, how many numbers and how many calls there is room for, and an index of Cases: for each of some
-- places a list of labels and places
pub record MemoryState : Type 0 where
  pub cells : List ℤ
  pub numbers_room : ℕ
  pub calls_room : ℕ
  pub cases : List (List (ℤ × ℕ))

-- cells after initial values were put in, in order: each is a cell and its value
abbrev pub with_starts : List ℤ → List (ℕ × ℤ) → List ℤ
with_starts cells [] = cells
with_starts cells (start ∷ starts) = with_starts (slice_set cells start.0 start.1) starts

-- there is room for the numbers and the calls of a state
pub record HasRoomFor (numbers_room calls_room : ℕ) (m : Machine) : Type 0 where
  pub numbers : length m.stack ≤ numbers_room
  pub calls : length m.calls ≤ calls_room

-- there is room for every state that a run of a handler reaches
abbrev pub HasRoomForRuns : Code → MemoryState → Type 0
HasRoomForRuns code memory = (handler : ℕ) (start reached : Machine) (closed : Bool) (moment : ℕ) →
    IsStartOf code handler start → Reaches code closed moment start reached →
    HasRoomFor memory.numbers_room memory.calls_room reached

-- a memory of this code: its cells hold numbers of their kinds, there is room for its runs, and its index is
-- one of the code
pub record IsMemoryOf (code : Code) (memory : MemoryState) : Type 0 where
  pub cells_held : HoldKinds code.cells memory.cells
  pub room : HasRoomForRuns code memory
  pub indexed : IsIndexOf code memory.cases

-- a memory of verified code is one still
abbrev pub StaysMemory : MemoryState → MemoryState → Type 0
StaysMemory before after = (code : Code) → IsVerified code → IsMemoryOf code before → IsMemoryOf code after
