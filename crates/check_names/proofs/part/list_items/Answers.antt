-- There is room for the next item.
use Rattle.std.proofs.Common.{[]}
use Rattle.check_names.proofs.PartLemmas.{room_for_item}
use Rattle.check_names.proofs.part.list_items.Goals as goal

pub list_item-requires-clause-few : goal.list_item-requires-clause-few
list_item-requires-clause-few c =
    room_for_item c.args.file c.loop-item.procedures c.args.procedures.now c.loop-item.item-index c.args.items.now c.item-item.result
    c.loop-item.into.items c.args.into.now.items c.loop-item-test.true c.item-item.is (c.loop-item.invariant.listed (λ number. []))
    c.requires.few
