-- The tables of a program, and code that has them and does nothing.
use Rattle.std.specs.Prelude.{◌≢◌, ◌<◌, ◌^◌, false, List, [], ◌∷◌, length, map, All, AllPairs}
use Rattle.write_format.specs.Line.{IsCharArray, char_arrays}
use Rattle.message_cells.specs.Cells.{BeginWithEvent, IsHeldStart}
use Rattle.run_effects.specs.Effect.{IsUnit, KeepsSelectors, KeepsTimers, selectors_of}
use Rattle.bytecode.specs.declared.code.Code.{Code}
use Rattle.bytecode.specs.declared.code.Handler.{Handler}
use Rattle.bytecode.specs.declared.instr.Instr.TheVariants.{Ret}
use Rattle.typed_tree.specs.declared.program.THandler.{THandler}
use Rattle.typed_tree.specs.declared.program.Typed.{Typed}
use Rattle.typed_tree.specs.Sound.{all_keys, all_selectors, all_timers}

-- the tables of a sound program
pub record KeepsTables (typed : Typed) : Type 0 where
  pub event_cells : BeginWithEvent typed.cells
  pub starts_held : All (IsHeldStart typed.cells) typed.starts
  pub units : All IsUnit typed.timers
  pub arrays_exist : All (λ format. All (IsCharArray typed.cells) (char_arrays format)) typed.formats
  pub selectors : KeepsSelectors (all_selectors typed.handlers)
  pub timers : KeepsTimers (all_timers typed.handlers) (length typed.timers)
  pub keys_differ : AllPairs (λ a b. a ≢ b) (all_keys typed.handlers)

-- an event procedure that does nothing
abbrev pub idle : THandler → Handler
idle handler = record { event = handler.event; function = 0; file = handler.file; line = handler.line }

-- the code that has the tables of a program, and whose event procedures do nothing
abbrev pub idle_code_of : Typed → Code
idle_code_of typed = record {
  instrs = Ret ∷ [];
  depths = 0 ∷ [];
  functions = record { start = 0; end = 1; gives = false } ∷ [];
  handlers = map idle typed.handlers;
  cells = typed.cells;
  starts = typed.starts;
  timers = typed.timers;
  formats = typed.formats;
}

-- no event procedure has 2^32 selectors or more
abbrev pub HaveFewSelectors : List THandler → Type 0
HaveFewSelectors handlers = All (λ handler. length (selectors_of handler.event) < 2 ^ 32) handlers
