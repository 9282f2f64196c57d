-- The handlers that are left have the selectors that are still to be added.
use Rattle.std.proofs.Common.{◌≡◌, ◌++◌, drop}
use Rattle.node_run.specs.Code.{events_of}
use Rattle.node_run.specs.Inside.Tables.{message_selectors}
use Rattle.node_run.proofs.tables.list_of.Given as goal

abbrev pub invariant-loop-handler : goal.invariant-loop-handler
invariant-loop-handler l = record {
  numbered : l.number ≡ l.handler-index;
  left : message_selectors 0 (events_of l.handlers) ≡ l.list.items ++ message_selectors l.number (events_of (drop l.handler-index l.handlers));
}
