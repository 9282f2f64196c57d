-- What was listed and what is left are what all selectors select.
use Rattle.std.proofs.Common.{◌≡◌, ◌++◌, drop}
use Rattle.std.specs.Prelude.{flat_map}
use Rattle.capl_meaning.specs.ProcedureRules.{ranges_of}
use Rattle.check_types.proofs.events.selectors_of.Given as goal

abbrev pub invariant-loop-selector : goal.invariant-loop-selector
invariant-loop-selector l =
    l.all.items ++ flat_map (ranges_of l.names.base) (drop l.selector-index l.selectors)
    ≡ flat_map (ranges_of l.names.base) l.selectors
