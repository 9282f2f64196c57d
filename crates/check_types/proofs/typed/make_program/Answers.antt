-- The names are plain, since no name is declared twice, and no identifier is too long, since no rule is broken.
use Rattle.std.proofs.Common.{◌∙◌, ap, subst, sym}
use Rattle.std.specs.Prelude.{All, flat_map}
use Rattle.capl_meaning.specs.Names.{Names}
use Rattle.typed_laws.specs.Agreement.{ArePlain}
use Rattle.typed_laws.specs.Laid.{AreDistinct}
use Rattle.typed_laws.proofs.Declared.{plain_names}
use Rattle.type_starts.specs.Identifier.{IsDeclaredShort}
use Rattle.check_names.specs.Part.{parts_in}
use Rattle.check_types.proofs.IdentifierLemmas.{all_short}
use Rattle.capl_meaning.specs.Statement.{handlers_of_part}
use Rattle.capl_meaning.specs.Inside.Procedure.{handlers_of}
use Rattle.check_types.proofs.RoomLemmas.{room_for_first, room_for_second}
use Rattle.type_alone.specs.Tables.{order_of}
use Rattle.typed_source.specs.Program.{formats_of_functions, formats_of_handlers}
use Rattle.check_types.proofs.typed.make_program.Goals as goal

pub make_functions-requires-clause-plain : goal.make_functions-requires-clause-plain
make_functions-requires-clause-plain c =
    let names = c.args.source.now.names.now in
    let distinct = subst (λ (n : Names). AreDistinct n.variables) c.requires.names c.requires.tables.trees.distinct in
    subst ArePlain (sym c.requires.names) (plain_names names.base c.args.program.now distinct)

pub first_values-requires-clause-identifiers : goal.first_values-requires-clause-identifiers
first_values-requires-clause-identifiers c =
    let names = c.args.source.now.names.now in
    subst (λ (n : Names). All (λ v. IsDeclaredShort v.form) n.variables) (sym c.requires.names)
    (all_short names.base c.args.program.now c.requires.no_offence)

pub make_functions-requires-clause-room : goal.make_functions-requires-clause-room
make_functions-requires-clause-room c =
    let names = c.args.source.now.names.now in
    room_for_first c.new-formats.result.items (formats_of_functions names (order_of c.args.source.now.tables.now))
    (formats_of_handlers (handlers_of names c.args.program.now)) c.new-formats.ensures.items c.requires.few_formats

pub make_handlers-requires-clause-room : goal.make_handlers-requires-clause-room
make_handlers-requires-clause-room c =
    let names = c.args.source.now.names.now in
    room_for_second c.new-formats.result.items c.make_functions.new.formats.items (formats_of_functions names (order_of c.args.source.now.tables.now))
    (formats_of_handlers (handlers_of names c.args.program.now)) _ c.new-formats.ensures.items c.in_ok-functions.ensures.formats
    (ap (λ ps. formats_of_handlers (flat_map (handlers_of_part names) ps))
    (ap parts_in c.as_slice.ensures.value ∙ c.in_ok-parts.ensures)) c.requires.few_formats
