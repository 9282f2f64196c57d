-- What was noted and what is left are the offences of all items.
use Rattle.std.proofs.Common.{◌≡◌, drop}
use Rattle.std.specs.Prelude.{flat_map}
use Rattle.capl_meaning.specs.DeclarationRules.{item_offences}
use Rattle.check_names.specs.First.{noted}
use Rattle.check_statements.specs.Site.{place_of}
use Rattle.check_statements.proofs.initialiser.judge_items.Given as goal

abbrev pub invariant-loop-item : goal.invariant-loop-item
invariant-loop-item l =
    noted l.first (flat_map (item_offences (place_of l.site)) (drop l.item-index l.items)) ≡ noted l.fn.first (flat_map (item_offences (place_of l.site)) l.items)
