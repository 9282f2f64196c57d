-- One more of the items.
use Rattle.capl_meaning.specs.Calls.{calls_in_item}
use Rattle.check_calls.proofs.CalleeLemmas.{added_more, added_none}
use Rattle.check_calls.proofs.statement.add_calls_in_items.Goals as goal

pub loop-item-init : goal.loop-item-init
loop-item-init c = added_none _ _

pub loop-item-preserved : goal.loop-item-preserved
loop-item-preserved c =
    added_more c.args.names.now calls_in_item c.args.items.now c.loop-item.item-index c.item-item.result _ _ _
    c.loop-item-test.true c.item-item.is c.loop-item.invariant c.in_ok-add_calls_in_item.ensures
