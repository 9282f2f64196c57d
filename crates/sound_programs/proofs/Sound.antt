-- The typed program of a program that breaks no rule is sound.
use Rattle.std.proofs.Common.{◌≡◌, ℕ, ◌≤◌, ◌<◌, ◌^◌, List, []}
use Rattle.dbc_reader.specs.declared.message.DbcMessage.{DbcMessage}
use Rattle.capl_tree.specs.declared.file.Program.{Program}
use Rattle.capl_tree.specs.Weight.{weight}
use Rattle.typed_tree.specs.Sound.{IsSound}
use Rattle.capl_meaning.specs.Names.{names_of}
use Rattle.capl_meaning.specs.Offences.{offences_of}
use Rattle.capl_meaning.specs.Store.{cells_of_program}
use Rattle.typed_source.specs.Program.{IsGoodOrder, typed_program}
use Rattle.sound_programs.specs.Given.{IsReadable}
use Rattle.sound_programs.proofs.Counts.{few_cells}
use Rattle.sound_programs.proofs.EventLists.{keys_kept, selectors_kept, timers_kept}
use Rattle.sound_programs.proofs.Procedures.{functions_sound, handlers_sound, tables_there}
use Rattle.sound_programs.proofs.ProcedureCounts.{short_lists}
use Rattle.sound_programs.proofs.Programs.{arrays_there, formats_short, units_fine}
use Rattle.sound_programs.proofs.Starts.{starts_fine}

-- all points together
pub all_sound : (base : List DbcMessage) (program : Program) (order : List ℕ) (line : ℕ → ℕ → ℕ) → IsReadable program → offences_of base program ≡ [] → IsGoodOrder (names_of base program) order →
    cells_of_program base program ≤ 1000000 → weight program < 2 ^ 35 → IsSound (typed_program base program order line)
all_sound base program order line readable none good few light =
    let short = short_lists base program order line good.has_no_other good.once light in
    let tables = tables_there base program order line readable none in
    let cells = few_cells base program order line readable none few in
    record {
      short = record {
        functions = short.functions;
        handlers = short.handlers;
        cells = cells.cells;
        starts = cells.starts;
        timers = cells.timers;
        formats = short.formats;
        texts = formats_short base program order line readable none;
      };
      functions = functions_sound base program order line readable none good;
      handlers = handlers_sound base program order line readable none good;
      event_cells = tables.event;
      starts_held = starts_fine base program order line readable none;
      units = units_fine base program order line readable none;
      arrays_exist = arrays_there base program order line readable none;
      selectors = selectors_kept base program order line none;
      timers = timers_kept base program order line none tables;
      keys_differ = keys_kept base program order line none;
    }
