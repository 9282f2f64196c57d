-- One more part.
use Rattle.std.proofs.Common.{◌∙◌, ◌++◌, List, ap, length, subst, sym}
use Rattle.std.specs.Prelude.{flat_map}
use Rattle.std.specs.Option.{option_to_list}
use Rattle.std.proofs.lemmas.List.{take_all}
use Rattle.capl_meaning.specs.Statement.{Handler, handlers_of_part}
use Rattle.check_names.specs.declared.part.ProgramPart.{ProgramPart}
use Rattle.check_names.specs.Part.{part_in}
use Rattle.check_types.specs.Lines.{line_in}
use Rattle.check_types.specs.Handlers.{lines_of}
use Rattle.type_alone.specs.Tables.{order_of}
use Rattle.typed_source.specs.Program.{formats_of_handlers, typed_handlers}
use Rattle.check_types.proofs.MadeLemmas.{flat_map-map, handler_formats_more, handlers_more}
use Rattle.check_types.proofs.RoomLemmas.{room_for_handlers}
use Rattle.type_alone.proofs.RoomLemmas.{HaveNumbers}
use Rattle.check_types.proofs.handlers.make_handlers.Goals as goal

pub loop-part-preserved : goal.loop-part-preserved
loop-part-preserved c =
    let of_part : ProgramPart → List Handler = λ part. handlers_of_part c.args.source.now.names.now (part_in part) in
    let order = order_of c.args.source.now.tables.now in
    let line = line_in (lines_of c.args.source.now) in
    let old = c.args.formats.now.items in
    let before = c.loop-part.formats.items in
    let all = c.args.parts.now in
    let i = c.loop-part.part-index in
    let is = c.loop-part.invariant in
    record {
      trees =
          c.in_ok-push_handler.ensures
          ∙ handlers_more of_part order line old before all i c.part-item.result c.loop-part.handlers.items
          (option_to_list c.in_ok-handler.handler) c.loop-part-test.true c.part-item.is is.trees is.formats c.in_ok-handler.ensures.trees;
      formats =
          handler_formats_more of_part old before c.make_handler.new.formats.items all i c.part-item.result c.loop-part-test.true
          c.part-item.is is.formats c.in_ok-handler.ensures.formats;
    }

pub returns-clause-trees : goal.returns-clause-trees
returns-clause-trees c =
    let of_part : ProgramPart → List Handler = λ part. handlers_of_part c.args.source.now.names.now (part_in part) in
    let order = order_of c.args.source.now.tables.now in
    let line = line_in (lines_of c.args.source.now) in
    let all = c.args.parts.now in
    c.from_list.ensures ∙ c.loop-part.invariant.trees
    ∙ ap (typed_handlers order line (length c.args.formats.now.items))
    (ap (flat_map of_part) (take_all c.loop-part.part-index all c.loop-part-test.false)
    ∙ sym (flat_map-map (handlers_of_part c.args.source.now.names.now) part_in all))

pub returns-clause-formats : goal.returns-clause-formats
returns-clause-formats c =
    let of_part : ProgramPart → List Handler = λ part. handlers_of_part c.args.source.now.names.now (part_in part) in
    let all = c.args.parts.now in
    c.loop-part.invariant.formats
    ∙ ap (λ (hs : List Handler). c.args.formats.now.items ++ formats_of_handlers hs)
    (ap (flat_map of_part) (take_all c.loop-part.part-index all c.loop-part-test.false)
    ∙ sym (flat_map-map (handlers_of_part c.args.source.now.names.now) part_in all))

pub make_handler-requires-clause-room : goal.make_handler-requires-clause-room
make_handler-requires-clause-room c =
    let names = c.args.source.now.names.now in
    let of_part : ProgramPart → List Handler = λ part. handlers_of_part names (part_in part) in
    let old = c.args.formats.now.items in
    let all = c.args.parts.now in
    room_for_handlers of_part old c.loop-part.formats.items all c.loop-part.part-index c.part-item.result c.loop-part-test.true
    c.part-item.is c.loop-part.invariant.formats
    (subst (λ (hs : List Handler). HaveNumbers (old ++ formats_of_handlers hs)) (flat_map-map (handlers_of_part names) part_in all)
    c.requires.room)
