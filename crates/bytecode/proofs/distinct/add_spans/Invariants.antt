-- The spans so far are those of the selectors so far.
use Rattle.std.proofs.Common.{◌≡◌, ◌++◌, take}
use Rattle.std.specs.List.{filter_map}
use Rattle.bytecode.specs.Inside.Distinct.{span_in}
use Rattle.bytecode.proofs.distinct.add_spans.Given as goal

abbrev pub invariant-loop-selector : goal.invariant-loop-selector
invariant-loop-selector l = l.into.items ≡ l.initial.into.items ++ filter_map (span_in l.rank) (take l.selector-index l.selectors)
