-- What was listed and what is left are what all selectors tell.
use Rattle.std.proofs.Common.{◌≡◌, ◌++◌, drop}
use Rattle.std.specs.Prelude.{filter_map, All}
use Rattle.capl_meaning.specs.ProcedureRules.{told_by_selector}
use Rattle.check_names.specs.Inside.Purpose.{IsOrdinaryTelling, told_at}
use Rattle.check_names.proofs.purposes.list_selectors.Given as goal

abbrev pub invariant-loop-selector : goal.invariant-loop-selector
invariant-loop-selector l = record {
  told : told_at l.into.items ++ filter_map (told_by_selector l.names.base l.file) (drop l.selector-index l.selectors)
      ≡ told_at l.fn.into.items ++ filter_map (told_by_selector l.names.base l.file) l.selectors;
  ordinary : All IsOrdinaryTelling l.fn.into.items → All IsOrdinaryTelling l.into.items;
}
