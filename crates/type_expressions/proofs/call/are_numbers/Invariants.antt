-- All are numbers where those that are left are.
use Rattle.std.proofs.Common.{◌≡◌, drop}
use Rattle.std.specs.List.{list_all}
use Rattle.capl_meaning.specs.Sort.{is_number}
use Rattle.type_expressions.proofs.call.are_numbers.Given as goal

abbrev pub invariant-loop-sort : goal.invariant-loop-sort
invariant-loop-sort l = list_all is_number (drop l.sort-index l.sorts) ≡ list_all is_number l.sorts
