-- All parts are sound.
use Rattle.std.proofs.Common.{◌≡◌, ℕ, Some, slice_get}
use Rattle.std.specs.Prelude.{All, IsTrue, ◌↔◌}
use Rattle.typed_tree.specs.declared.program.TFun.{TFun}
use Rattle.typed_tree.specs.declared.program.Typed.{Typed}
use Rattle.typed_tree.specs.Sound.{IsShortProgram, IsSoundFunction, IsSoundHandler}
use Rattle.sound_check.specs.Tables.{KeepsTables}
use Rattle.sound_check.proofs.program.is_sound.Goals as goal

-- all functions are sound
abbrev AreSoundFunctions : Typed → Type 0
AreSoundFunctions typed = (number : ℕ) (function : TFun) →
    slice_get typed.functions number ≡ Some function → IsSoundFunction typed number function

pub returns-then-handlers_sound : goal.returns-then-handlers_sound
returns-then-handlers_sound c =
    let typed = c.args.typed.now in
    let short : IsTrue c.is_short_program.result ↔ IsShortProgram typed = c.is_short_program.ensures in
    let functions : IsTrue c.in_ok-functions_sound.functions_sound ↔ AreSoundFunctions typed = c.in_ok-functions_sound.ensures in
    let handlers : IsTrue c.in_ok-handlers_sound.handlers_sound ↔ All (IsSoundHandler typed) typed.handlers = c.in_ok-handlers_sound.ensures in
    let tables : IsTrue c.in_ok-tables_kept.tables_kept ↔ KeepsTables typed = c.in_ok-tables_kept.ensures in (
      λ t.
          let kept = tables.0 t in
          record {
            short = short.0 c.if-not-is_short_program.false;
            functions = functions.0 c.if-handlers_sound.true.0;
            handlers = handlers.0 c.if-handlers_sound.true.1;
            event_cells = kept.event_cells;
            starts_held = kept.starts_held;
            units = kept.units;
            arrays_exist = kept.arrays_exist;
            selectors = kept.selectors;
            timers = kept.timers;
            keys_differ = kept.keys_differ;
          },
      λ sound. tables.1 (record {
        event_cells = sound.event_cells;
        starts_held = sound.starts_held;
        units = sound.units;
        arrays_exist = sound.arrays_exist;
        selectors = sound.selectors;
        timers = sound.timers;
        keys_differ = sound.keys_differ;
      }),
    )
