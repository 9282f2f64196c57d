-- What was made and what is to be made is what is made of all.
use Rattle.std.proofs.Common.{◌≡◌, ◌++◌, drop}
use Rattle.std.specs.Prelude.{map}
use Rattle.capl_meaning.specs.Sort.{sort_of}
use Rattle.typed_source.specs.Statement.{argument_of, numbers_of}
use Rattle.check_sorts.specs.Scope.{scope_in}
use Rattle.type_alone.specs.Tables.{order_of}
use Rattle.type_alone.proofs.write.make_arguments.Given as goal

abbrev pub invariant-loop-e : goal.invariant-loop-e
invariant-loop-e l = record {
  kinds : l.made.kinds.items ++ map (argument_of (scope_in l.scope)) (drop l.e-index l.all)
      ≡ map (argument_of (scope_in l.scope)) l.all;
  sorts : l.made.sorts.items ++ map (sort_of (scope_in l.scope)) (drop l.e-index l.all) ≡ map (sort_of (scope_in l.scope)) l.all;
  numbers : l.made.numbers.items ++ numbers_of (scope_in l.scope) (order_of l.tables) (drop l.e-index l.all)
      ≡ numbers_of (scope_in l.scope) (order_of l.tables) l.all;
}
