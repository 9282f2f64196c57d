-- The part of the machine's state that a run holds by itself.
use Rattle.std.specs.Prelude.{◌≡◌, ℕ, Bool, List, ℤ}
use Rattle.run_effects.specs.Effect.{Effect}
use Rattle.bytecode.specs.Machine.{Machine}

-- the place of the next instruction; the numbers on the stack, the top first; where each open call returns
-- to, the innermost first; the cells; the turns that are left; and how many numbers and calls there is room
-- for
pub record RunState : Type 0 where
  pub place : ℕ
  pub stack : List ℤ
  pub calls : List ℕ
  pub cells : List ℤ
  pub turns : ℕ
  pub numbers_room : ℕ
  pub calls_room : ℕ

-- the machine with this state, these active timers and these effects so far
abbrev pub machine : RunState → List Bool → List Effect → Machine
machine s active effects = record {
  place = s.place;
  stack = s.stack;
  calls = s.calls;
  cells = s.cells;
  turns = s.turns;
  active = active;
  effects = effects;
}

-- a state has as much room as another
pub record HasSameRoom (before after : RunState) : Type 0 where
  pub numbers : after.numbers_room ≡ before.numbers_room
  pub calls : after.calls_room ≡ before.calls_room
