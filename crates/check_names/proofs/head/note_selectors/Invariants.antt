-- What was noted and what is left are the offences of all selectors.
use Rattle.std.proofs.Common.{◌≡◌, drop}
use Rattle.std.specs.Prelude.{flat_map}
use Rattle.capl_meaning.specs.Names.{outside}
use Rattle.check_names.specs.First.{noted}
use Rattle.check_names.specs.Named.{selector_offences}
use Rattle.check_names.proofs.head.note_selectors.Given as goal

abbrev pub invariant-loop-selector : goal.invariant-loop-selector
invariant-loop-selector l =
    noted l.first (flat_map (selector_offences (outside l.names l.file)) (drop l.selector-index l.selectors))
    ≡ noted l.fn.first (flat_map (selector_offences (outside l.names l.file)) l.selectors)
