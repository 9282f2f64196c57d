-- All that the compiler asks of a typed program.
use Rattle.std.specs.Prelude.{◌≡◌, ◌≢◌, ℕ, ◌<◌, ◌^◌, false, List, length, is_some, slice_get, flat_map, filter_map, Option, Some, All, AllPairs}
use Rattle.std.specs.List.{AllByRecursion}
use Rattle.write_format.specs.Line.{IsCharArray, IsShort, char_arrays}
use Rattle.run_effects.specs.declared.event.Selector.{Selector}
use Rattle.run_effects.specs.Effect.{IsUnit, KeepsSelectors, KeepsTimers, key_of, selectors_of, timer_of}
use Rattle.message_cells.specs.Cells.{BeginWithEvent, IsHeldStart}
use Rattle.typed_tree.specs.declared.program.TFun.{TFun}
use Rattle.typed_tree.specs.declared.program.THandler.{THandler}
use Rattle.typed_tree.specs.declared.program.Typed.{Typed}
use Rattle.typed_tree.specs.SoundStatement.{Around, IsSoundStmt}

-- what the body of a function of a number stands in
abbrev pub in_function : ℕ → TFun → Around
in_function number function =
    record { number = number; gives = is_some function.gives; breakable = false; continuable = false }

-- what the body of an event procedure stands in: it may call each of so many functions
abbrev pub in_handler : ℕ → Around
in_handler count = record { number = count; gives = false; breakable = false; continuable = false }

-- a function of a number
pub record IsSoundFunction (typed : Typed) (number : ℕ) (function : TFun) : Type 0 where
  pub few_params : length function.params < 2 ^ 32
  pub params_exist : All (λ param. param < length typed.cells) function.params
  pub params_differ : AllPairs (λ a b. a ≢ b) function.params
  pub few_statements : length function.body < 2 ^ 32
  pub statements : AllByRecursion (IsSoundStmt typed (in_function number function)) function.body

-- an event procedure
pub record IsSoundHandler (typed : Typed) (handler : THandler) : Type 0 where
  pub few_selectors : length (selectors_of handler.event) < 2 ^ 32
  pub few_statements : length handler.body < 2 ^ 32
  pub statements : AllByRecursion (IsSoundStmt typed (in_handler (length typed.functions))) handler.body

-- no list of a program itself has 2^32 items or more, and no text of its formats and their arguments
pub record IsShortProgram (typed : Typed) : Type 0 where
  pub functions : length typed.functions < 2 ^ 32
  pub handlers : length typed.handlers < 2 ^ 32
  pub cells : length typed.cells < 2 ^ 32
  pub starts : length typed.starts < 2 ^ 32
  pub timers : length typed.timers < 2 ^ 32
  pub formats : length typed.formats < 2 ^ 32
  pub texts : All IsShort typed.formats

-- all selectors of the event procedures
abbrev pub all_selectors : List THandler → List Selector
all_selectors handlers = flat_map (λ handler. selectors_of handler.event) handlers

-- all timers of the event procedures
abbrev pub all_timers : List THandler → List ℕ
all_timers handlers = filter_map (λ handler. timer_of handler.event) handlers

-- all keys of the event procedures
abbrev pub all_keys : List THandler → List (Option ℕ)
all_keys handlers = filter_map (λ handler. key_of handler.event) handlers

-- A typed program is sound. No list in it is too long, and its functions and event procedures are sound. Its
-- first cells are the event's, and initial values are held by their cells' kinds. No two selectors of one
-- rank overlap, and no two event procedures have the same timer or the same key.
pub record IsSound (typed : Typed) : Type 0 where
  pub short : IsShortProgram typed
  pub functions : (number : ℕ) (function : TFun) →
      slice_get typed.functions number ≡ Some function → IsSoundFunction typed number function
  pub handlers : All (IsSoundHandler typed) typed.handlers
  pub event_cells : BeginWithEvent typed.cells
  pub starts_held : All (IsHeldStart typed.cells) typed.starts
  pub units : All IsUnit typed.timers
  pub arrays_exist : All (λ format. All (IsCharArray typed.cells) (char_arrays format)) typed.formats
  pub selectors : KeepsSelectors (all_selectors typed.handlers)
  pub timers : KeepsTimers (all_timers typed.handlers) (length typed.timers)
  pub keys_differ : AllPairs (λ a b. a ≢ b) (all_keys typed.handlers)
