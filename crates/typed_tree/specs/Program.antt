-- What the procedures of a typed program mean (CAPL manual, functions, event procedures). The
-- limit of turns is this project's own.
use Rattle.std.specs.Prelude.{ℕ, ◌-◌, List, [], slice_get}
use Rattle.std.specs.Option.{option_map_or}
use Rattle.run_effects.specs.Effect.{Effect}
use Rattle.run_effects.specs.declared.outcome.Outcome.{Outcome}
use Rattle.run_effects.specs.declared.outcome.Outcome.TheVariants.{Done}
use Rattle.control_flow.specs.World.{Run, Gives, Fails}
use Rattle.control_flow.specs.Control.{Calls, Does, End, calls_by, in_order}
use Rattle.typed_tree.specs.declared.program.THandler.{THandler}
use Rattle.typed_tree.specs.declared.program.Typed.{Typed}
use Rattle.typed_tree.specs.declared.statement.TStmt.{TStmt}
use Rattle.typed_tree.specs.Memory.{Memory}
use Rattle.typed_tree.specs.Expression.{Setting}
use Rattle.typed_tree.specs.Statement.{stmt_of}

-- the body of a function
abbrev pub body_of : Typed → ℕ → List TStmt
body_of typed f = option_map_or (λ function. function.body) (slice_get typed.functions f) []

-- what a procedure's statements do, where calls do what `call` says and at most n turns are left
abbrev pub runs : Setting → Calls Memory → ℕ → List TStmt → Does Memory
runs s call n body = in_order (stmt_of s call n) body

-- what the calls of the functions do, where at most n turns are left
abbrev pub calls_of : Setting → ℕ → Calls Memory
calls_of s n = calls_by (λ call n f. runs s call n (body_of s.typed f)) n

-- how the run of an event procedure ends: what the memory is then, how many turns it took, its effects in
-- order, and the outcome
pub record Ending : Type 0 where
  pub memory : Memory
  pub turns_taken : ℕ
  pub effects : List Effect
  pub outcome : Outcome

-- the ending of a run that was given so many turns
abbrev pub ending : ℕ → Run Memory End → Ending
ending turns (Gives end w) =
    record { memory = w.memory; turns_taken = turns - w.turns; effects = w.effects; outcome = Done }
ending turns (Fails outcome w) =
    record { memory = w.memory; turns_taken = turns - w.turns; effects = w.effects; outcome = outcome }

-- how an event procedure ends from a memory with so many turns
abbrev pub ending_of : Setting → THandler → ℕ → Memory → Ending
ending_of s handler turns memory =
    ending turns (runs s (calls_of s turns) turns handler.body
    (record { memory = memory; turns = turns; effects = [] }))
