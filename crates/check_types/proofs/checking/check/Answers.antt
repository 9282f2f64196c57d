-- What is built of the program tells why it is refused or accepted.
use Rattle.check_names.specs.Names.{messages_of}
use Rattle.check_calls.specs.Calls.{order_of}
use Rattle.check_types.proofs.CheckLemmas.{cells_few, distinct_names, first_of_own_base, first_refused, formats_few, good_calls, laid_out, none_refused, of_own_base, too_large, typed_of, typed_sound}
use Rattle.check_types.proofs.checking.check.Goals as goal

pub first_offence-requires-clause-names : goal.first_offence-requires-clause-names
first_offence-requires-clause-names c =
    of_own_base (messages_of c.args.base) c.args.program.now c.in_ok-named.named.names c.in_ok-named.ensures.names

pub first_offence-requires-clause-named : goal.first_offence-requires-clause-named
first_offence-requires-clause-named c =
    first_of_own_base (messages_of c.args.base) c.args.program.now c.in_ok-named.named.names c.in_ok-named.named.first
    c.in_ok-named.ensures.names c.in_ok-named.ensures.first

pub returns-in-Some-clause-refused : goal.returns-in-Some-clause-refused
returns-in-Some-clause-refused c =
    first_refused (messages_of c.args.base) c.args.program.now c.in_ok-named.named.names c.in_ok-named.ensures.names
    c.in_ok-offence.field-0 c.in-Some.offence c.in_ok-offence.ensures.first c.in-Some.is

pub returns-in_default-2-clause-refused : goal.returns-in_default-2-clause-refused
returns-in_default-2-clause-refused c =
    too_large (messages_of c.args.base) c.args.program.now c.in_ok-named.named.names c.in_ok-named.ensures.names
    (c.in_ok-offence.ensures.none c.in_default.is) c.in_ok-layout.field-0 c.in_default-2.is c.in_ok-layout.ensures

pub make_program-requires-clause-names : goal.make_program-requires-clause-names
make_program-requires-clause-names c =
    of_own_base (messages_of c.args.base) c.args.program.now c.in_ok-named.named.names c.in_ok-named.ensures.names

pub make_program-requires-clause-tables : goal.make_program-requires-clause-tables
make_program-requires-clause-tables c =
    let names = c.in_ok-named.named.names in
    record {
      trees = record {
        layout = (laid_out names c.in_ok-layout.field-0 c.in-Some-2.layout c.in-Some-2.is c.in_ok-layout.ensures).1;
        calls = c.in_ok-calls.ensures;
        distinct =
            distinct_names (messages_of c.args.base) c.args.program.now names c.in_ok-named.ensures.names
            (c.in_ok-offence.ensures.none c.in_default.is);
        few = (laid_out names c.in_ok-layout.field-0 c.in-Some-2.layout c.in-Some-2.is c.in_ok-layout.ensures).0;
      };
      constants = c.in_ok-constants.ensures;
    }

pub returns-clause-typed : goal.returns-clause-typed
returns-clause-typed c =
    let names = c.in_ok-named.named.names in
    let none = c.in_ok-offence.ensures.none c.in_default.is in
    let few = (laid_out names c.in_ok-layout.field-0 c.in-Some-2.layout c.in-Some-2.is c.in_ok-layout.ensures).0 in
    typed_of (messages_of c.args.base) c.args.program.now names c.in_ok-calls.calls _ c.in_ok-typed.typed c.in_ok-named.ensures.names none few
    c.in_ok-calls.ensures c.in_ok-typed.ensures

pub returns-clause-sound : goal.returns-clause-sound
returns-clause-sound c = λ readable.
    let base = messages_of c.args.base in
    let program = c.args.program.now in
    let names = c.in_ok-named.named.names in
    let calls = c.in_ok-calls.calls in
    let none = c.in_ok-offence.ensures.none c.in_default.is in
    let few = (laid_out names c.in_ok-layout.field-0 c.in-Some-2.layout c.in-Some-2.is c.in_ok-layout.ensures).0 in
    typed_sound base program names calls _ c.in_ok-typed.typed c.in_ok-named.ensures.names c.in_ok-typed.ensures
    (good_calls base program names calls c.in_ok-named.ensures.names none c.in_ok-calls.ensures readable c.orders_are_good.ensures
    c.functions_do_not_reach_their_callers.ensures)
    (λ line good. c.programs_without_offences_are_sound.ensures base program (order_of calls) line readable
    (none_refused base program names c.in_ok-named.ensures.names none) good (cells_few base program names c.in_ok-named.ensures.names few) c.requires.light)

pub make_program-requires-clause-no_offence : goal.make_program-requires-clause-no_offence
make_program-requires-clause-no_offence c = c.in_ok-offence.ensures.none c.in_default.is

pub make_program-requires-clause-few_formats : goal.make_program-requires-clause-few_formats
make_program-requires-clause-few_formats c =
    let base = messages_of c.args.base in
    let program = c.args.program.now in
    formats_few base program c.in_ok-named.named.names c.in_ok-calls.calls c.in_ok-named.ensures.names c.in_ok-calls.ensures
    (λ order line other once. c.light_programs_have_short_lists.ensures base program order line other once c.requires.light)
