-- The verifier's rules of the tables of code.
use Rattle.std.specs.Prelude.{◌≡◌, ◌≢◌, ℕ, false, List, length, All, AllPairs, slice_get, Option, IsSomeAnd}
use Rattle.std.specs.List.{flat_map, filter_map}
use Rattle.write_format.specs.Line.{IsCharArray, char_arrays}
use Rattle.run_effects.specs.declared.event.Selector.{Selector}
use Rattle.bytecode.specs.declared.code.Code.{Code}
use Rattle.bytecode.specs.declared.code.Fun.{Fun}
use Rattle.bytecode.specs.declared.code.Handler.{Handler}
use Rattle.message_cells.specs.Cells.{BeginWithEvent, IsHeldStart}
use Rattle.run_effects.specs.Effect.{IsUnit, KeepsSelectors, KeepsTimers, key_of, selectors_of, timer_of}

-- all selectors of the handlers
abbrev pub all_selectors : List Handler → List Selector
all_selectors handlers = flat_map (λ handler. selectors_of handler.event) handlers

-- all timers of the handlers
abbrev pub all_timers : List Handler → List ℕ
all_timers handlers = filter_map (λ handler. timer_of handler.event) handlers

-- all keys of the handlers
abbrev pub all_keys : List Handler → List (Option ℕ)
all_keys handlers = filter_map (λ handler. key_of handler.event) handlers

-- the function of a number is there and gives nothing
abbrev pub GivesNothing : List Fun → ℕ → Type 0
GivesNothing functions number = IsSomeAnd (slice_get functions number) (λ function. function.gives ≡ false)

-- handlers of functions that give nothing, of which no two react to one key, to one timer, or with one
-- rank to one frame
pub record KeepsHandlers (code : Code) : Type 0 where
  pub give_nothing : All (λ handler. GivesNothing code.functions handler.function) code.handlers
  pub selectors : KeepsSelectors (all_selectors code.handlers)
  pub timers : KeepsTimers (all_timers code.handlers) (length code.timers)
  pub keys_differ : AllPairs (λ a b. a ≢ b) (all_keys code.handlers)

-- the rules of the tables
pub record KeepsTables (code : Code) : Type 0 where
  pub event_cells : BeginWithEvent code.cells
  pub starts_held : All (IsHeldStart code.cells) code.starts
  pub handlers : KeepsHandlers code
  pub units : All IsUnit code.timers
  pub arrays_exist : All (λ format. All (IsCharArray code.cells) (char_arrays format)) code.formats
