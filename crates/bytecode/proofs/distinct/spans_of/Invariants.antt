-- The spans so far are those of the handlers so far.
use Rattle.std.proofs.Common.{◌≡◌, take}
use Rattle.std.specs.List.{filter_map}
use Rattle.bytecode.specs.Tables.{all_selectors}
use Rattle.bytecode.specs.Inside.Distinct.{span_in}
use Rattle.bytecode.proofs.distinct.spans_of.Given as goal

abbrev pub invariant-loop-handler : goal.invariant-loop-handler
invariant-loop-handler l = l.spans.items ≡ filter_map (span_in l.rank) (all_selectors (take l.handler-index l.handlers))
