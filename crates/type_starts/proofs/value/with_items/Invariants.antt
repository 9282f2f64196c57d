-- The items so far were written.
use Rattle.std.proofs.Common.{take}
use Rattle.std.specs.Prelude.{fold}
use Rattle.capl_meaning.specs.Initial.{with_item}
use Rattle.capl_meaning.specs.Store.{MessageRecord}
use Rattle.check_sorts.specs.Form.{signals_in}
use Rattle.check_sorts.specs.Scope.{scope_in}
use Rattle.type_starts.specs.Message.{IsMessage}
use Rattle.type_starts.proofs.value.with_items.Given as goal

abbrev pub invariant-loop-item : goal.invariant-loop-item
invariant-loop-item l = (m : MessageRecord) → IsMessage l.fn.message m →
    IsMessage l.written (fold (with_item (scope_in l.spot.scope) l.spot.token (signals_in l.signals)) m (take l.item-index l.items))
