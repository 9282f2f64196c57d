-- What was noted and what is left are the offences of all items.
use Rattle.std.proofs.Common.{◌≡◌, drop}
use Rattle.std.specs.Prelude.{flat_map}
use Rattle.capl_meaning.specs.DeclarationRules.{array_item_rules}
use Rattle.check_names.specs.First.{noted}
use Rattle.check_statements.specs.Site.{place_of}
use Rattle.check_statements.proofs.initialiser.judge_array_items.Given as goal

abbrev pub invariant-loop-item : goal.invariant-loop-item
invariant-loop-item l =
    noted l.first (flat_map (array_item_rules (place_of l.site) l.braces.token l.braces.at) (drop l.item-index l.items)) ≡ noted l.fn.first (flat_map (array_item_rules (place_of l.site) l.braces.token l.braces.at) l.items)
