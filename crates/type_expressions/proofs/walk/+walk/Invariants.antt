-- What was made and what is to be made is what is made of all.
use Rattle.std.proofs.Common.{◌≡◌, ◌++◌, drop}
use Rattle.std.specs.Prelude.{map}
use Rattle.capl_meaning.specs.Sort.{sort_of}
use Rattle.typed_source.specs.Expression.{expression_of}
use Rattle.check_sorts.specs.Scope.{scope_in}
use Rattle.type_expressions.specs.Made.{order_in}
use Rattle.type_expressions.proofs.walk.+walk.Given as goal

abbrev pub invariant-walk_row-loop-e : goal.invariant-walk_row-loop-e
invariant-walk_row-loop-e l = record {
  trees : l.row.trees.items ++ map (expression_of (scope_in l.scope) (order_in l.tables)) (drop l.e-index l.all)
      ≡ map (expression_of (scope_in l.scope) (order_in l.tables)) l.all;
  sorts : l.row.sorts.items ++ map (sort_of (scope_in l.scope)) (drop l.e-index l.all) ≡ map (sort_of (scope_in l.scope)) l.all;
}
