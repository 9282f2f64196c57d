-- A field and its value.
use Rattle.std.proofs.Common.{ap, refl}
use Rattle.capl_meaning.specs.Calls.{calls_in, calls_in_field, calls_in_item}
use Rattle.check_calls.proofs.CalleeLemmas.{added_pair}
use Rattle.check_calls.proofs.statement.add_calls_in_item.Goals as goal

pub returns-in_ok-add_calls-in-Set : goal.returns-in_ok-add_calls-in-Set
returns-in_ok-add_calls-in-Set c =
    added_pair calls_in_field calls_in c.args.names.now _ _ _ _ c.in-Set.field c.in-Set.field c.in-Set.value c.in-Set.value
    (ap calls_in_item c.in-Set.is) refl refl c.in_ok-add_calls_in_field-in-Set.ensures c.in_ok-add_calls-in-Set.ensures
