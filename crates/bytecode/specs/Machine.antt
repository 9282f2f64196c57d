-- The state of the stack machine, and what a step makes of it.
use Rattle.std.specs.Prelude.{ℕ, Bool, List, ℤ}
use Rattle.run_effects.specs.Effect.{Effect}
use Rattle.run_effects.specs.declared.outcome.Outcome.{Outcome}

-- a state: the place of the next instruction; the numbers on the stack, the top first; where each open
-- call returns to, the innermost first; the cells; the turns that are left; which timers are active; and
-- the effects so far, in order
pub record Machine : Type 0 where
  pub place : ℕ
  pub stack : List ℤ
  pub calls : List ℕ
  pub cells : List ℤ
  pub turns : ℕ
  pub active : List Bool
  pub effects : List Effect

-- after a step the machine goes on, or has ended, or was stuck: what the instruction asks for is not there
pub data Next : Type 0 where
  Goes : Machine → Next
  Ends : Outcome → Machine → Next
  Stuck : Next
