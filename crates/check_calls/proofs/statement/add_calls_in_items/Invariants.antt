-- What was added is of the items so far.
use Rattle.std.proofs.Common.{take}
use Rattle.std.specs.Prelude.{flat_map}
use Rattle.capl_meaning.specs.Calls.{calls_in_item}
use Rattle.check_calls.proofs.statement.add_calls_in_items.Given as goal
use Rattle.check_calls.specs.Inside.Added.{AreAdded}

abbrev pub invariant-loop-item : goal.invariant-loop-item
invariant-loop-item l = AreAdded l.names l.into.items l.fn.into.items (flat_map calls_in_item (take l.item-index l.items))
