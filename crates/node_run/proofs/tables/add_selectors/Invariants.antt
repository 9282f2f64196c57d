-- The selectors that are left are still to be added.
use Rattle.std.proofs.Common.{◌≡◌, ◌++◌, drop, map}
use Rattle.node_run.specs.Inside.Tables.{selector_for}
use Rattle.node_run.proofs.tables.add_selectors.Given as goal

abbrev pub invariant-loop-selector : goal.invariant-loop-selector
invariant-loop-selector l =
    l.initial.list.items ++ map (selector_for l.handler) l.selectors ≡ l.list.items ++ map (selector_for l.handler) (drop l.selector-index l.selectors)
