-- The event procedures and formats are those of the parts so far.
use Rattle.std.proofs.Common.{◌≡◌, ◌++◌, length, take}
use Rattle.std.specs.Prelude.{flat_map}
use Rattle.capl_meaning.specs.Statement.{handlers_of_part}
use Rattle.check_names.specs.Part.{part_in}
use Rattle.check_types.specs.Lines.{line_in}
use Rattle.check_types.specs.Handlers.{lines_of}
use Rattle.type_alone.specs.Tables.{order_of}
use Rattle.typed_source.specs.Program.{formats_of_handlers, typed_handlers}
use Rattle.check_types.proofs.handlers.make_handlers.Given as goal

abbrev pub invariant-loop-part : goal.invariant-loop-part
invariant-loop-part l = record {
  trees : l.handlers.items
      ≡ typed_handlers (order_of l.source.tables.now) (line_in (lines_of l.source)) (length l.fn.formats.items)
      (flat_map (λ part. handlers_of_part l.source.names.now (part_in part)) (take l.part-index l.parts));
  formats : l.formats.items ≡ l.fn.formats.items
      ++ formats_of_handlers (flat_map (λ part. handlers_of_part l.source.names.now (part_in part)) (take l.part-index l.parts));
}
