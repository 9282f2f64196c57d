-- One more argument, and all of them.
use Rattle.std.proofs.Common.{map, refl, arith}
use Rattle.capl_meaning.specs.Sort.{sort_of}
use Rattle.typed_source.specs.Statement.{argument_of, numbers_of}
use Rattle.check_sorts.specs.Scope.{scope_in}
use Rattle.type_alone.specs.Tables.{order_of}
use Rattle.type_alone.proofs.WriteLemmas.{no_more, numbers_step, one_more}
use Rattle.type_alone.proofs.write.make_arguments.Goals as goal

pub loop-e-preserved : goal.loop-e-preserved
loop-e-preserved c =
    let s = scope_in c.args.scope in
    let order = order_of c.args.tables.now in
    record {
      kinds = one_more (map (argument_of s)) (λ e rest. refl) c.args.all.now c.loop-e.e-index c.e-item.result _ _
          c.loop-e-test.true c.e-item.is c.loop-e.invariant.kinds c.in_ok-add_argument.ensures.kinds;
      sorts = one_more (map (sort_of s)) (λ e rest. refl) c.args.all.now c.loop-e.e-index c.e-item.result _ _
          c.loop-e-test.true c.e-item.is c.loop-e.invariant.sorts c.in_ok-add_argument.ensures.sorts;
      numbers = one_more (numbers_of s order) (numbers_step s order) c.args.all.now c.loop-e.e-index c.e-item.result _ _
          c.loop-e-test.true c.e-item.is c.loop-e.invariant.numbers c.in_ok-add_argument.ensures.numbers;
    }

pub returns-clause-kinds : goal.returns-clause-kinds
returns-clause-kinds c =
    no_more (map (argument_of (scope_in c.args.scope))) refl c.args.all.now c.loop-e.e-index _ (omega arith)
    c.loop-e.invariant.kinds

pub returns-clause-sorts : goal.returns-clause-sorts
returns-clause-sorts c =
    no_more (map (sort_of (scope_in c.args.scope))) refl c.args.all.now c.loop-e.e-index _ (omega arith)
    c.loop-e.invariant.sorts

pub returns-clause-numbers : goal.returns-clause-numbers
returns-clause-numbers c =
    no_more (numbers_of (scope_in c.args.scope) (order_of c.args.tables.now)) refl c.args.all.now c.loop-e.e-index _
    (omega arith) c.loop-e.invariant.numbers
