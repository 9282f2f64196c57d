-- Keys are bytes, and nodes whose rows stand in order have them.
use Rattle.std.proofs.Common.{List, length, arith, ap, subst, sym}
use Rattle.node_run.specs.Node.{NodeInRound}
use Rattle.sim_core.specs.Core.{CoreState, HaveRows}
use Rattle.sim_play.specs.Play.{StandInOrder}
use Rattle.run_bench.proofs.NewRows.{rows_there}
use Rattle.run_bench.proofs.bench.start_on.Goals as goal

pub make-core-requires-clause-keys : goal.make-core-requires-clause-keys
make-core-requires-clause-keys g c = λ k d there. omega (arith, c.args.course.in_range k d there)

pub invariant_of-result-clause-in_order : goal.invariant_of-result-clause-in_order
invariant_of-result-clause-in_order g c =
    subst (λ (nodes : List NodeInRound). StandInOrder 0 nodes (length c.in_ok-nodes.meter))
    (sym (ap (λ (core : CoreState _). core.nodes) c.make-core.ensures)) c.in_ok-nodes.ensures.rows.in_order

pub invariant_of-result-clause-rows : goal.invariant_of-result-clause-rows
invariant_of-result-clause-rows g c =
    subst (λ (nodes : List NodeInRound). HaveRows c.in_ok-nodes.meter nodes)
    (sym (ap (λ (core : CoreState _). core.nodes) c.make-core.ensures))
    (rows_there c.in_ok-nodes.nodes.items c.in_ok-nodes.meter c.in_ok-nodes.ensures.rows.in_order)
