-- A round is the tasks that the nodes have left at its beginning.
use Rattle.std.proofs.Common.{◌≡◌, All, arith, refl, ap, sym, subst, ◌∙◌}
use Rattle.std.specs.List.{AllByRecursion}
use Rattle.std.specs.Vec.{with_items}
use Rattle.std.proofs.lemmas.List.{with_items_is}
use Rattle.sim_core.specs.Core.{HaveRows, KeepsNodes}
use Rattle.sim_core.specs.Inside.Kept.{IsIdle}
use Rattle.sim_core.specs.Inside.Tasks.{IsOwn, begun_nodes}
use Rattle.sim_core.proofs.BegunNodes.{begun_keeps, begun_own}
use Rattle.sim_core.proofs.Errors.{on_err}
use Rattle.sim_core.proofs.NodeLists.{keeps_both, rows_stay}
use Rattle.sim_core.proofs.RoundLemmas.{cut_as, cut_round, does_as, does_round, no_round, rests_after, rests_as}
use Rattle.sim_core.proofs.simulation.Core.do_round.Goals as goal

pub returns-in_default-clause-cut : goal.returns-in_default-clause-cut
returns-in_default-clause-cut g c =
    no_round g.B.Bus.meaning g.R.Record.meaning c.args.round c.args.ended.now c.args.keys.now c.args.self.now g.met.B.Bus.frames_come c.requires.seen c.requires.keys c.requires.rest

pub returns-in_default-list_open-clause-cut : goal.returns-in_default-list_open-clause-cut
returns-in_default-list_open-clause-cut g c =
    no_round g.B.Bus.meaning g.R.Record.meaning c.args.round c.args.ended.now c.args.keys.now c.args.self.now g.met.B.Bus.frames_come c.requires.seen c.requires.keys c.requires.rest

pub do_tasks-requires-clause-own : goal.do_tasks-requires-clause-own
do_tasks-requires-clause-own g c =
    let now = c.self.inside.moment in
    let are = c.deref_mut-2.ensures.value ∙ with_items_is c.self.inside.nodes c.begin_all.new.nodes (omega arith) ∙ c.in-Ok.ensures.begun ∙ ap (begun_nodes c.args.round now c.args.ended.now c.args.keys.now 0) c.deref_mut.ensures.value in
    subst (AllByRecursion (IsOwn now)) (sym are)
    (begun_own c.args.round now c.args.ended.now c.args.keys.now c.requires.seen c.requires.keys 0 c.self.inside.nodes.items (rests_as c.self.view_is c.requires.rest).ready)

pub do_tasks-requires-clause-rows : goal.do_tasks-requires-clause-rows
do_tasks-requires-clause-rows g c =
    let now = c.self.inside.moment in
    let are = c.deref_mut-2.ensures.value ∙ with_items_is c.self.inside.nodes c.begin_all.new.nodes (omega arith) ∙ c.in-Ok.ensures.begun ∙ ap (begun_nodes c.args.round now c.args.ended.now c.args.keys.now 0) c.deref_mut.ensures.value in
    rows_stay c.self.inside.nodes.items c.deref_mut-2.result.now c.args.meter.now c.args.meter.now
    (subst (KeepsNodes c.self.inside.nodes.items) (sym are) (begun_keeps c.args.round now c.args.ended.now c.args.keys.now 0 c.self.inside.nodes.items)) refl
    (subst (λ s. HaveRows c.args.meter.now s.nodes) (sym c.self.view_is) c.requires.rows)

pub returns-in_err-stops-clause-cut : goal.returns-in_err-stops-clause-cut
returns-in_err-stops-clause-cut g c =
    let now = c.self.inside.moment in
    let are = c.deref_mut-2.ensures.value ∙ with_items_is c.self.inside.nodes c.begin_all.new.nodes (omega arith) ∙ c.in-Ok.ensures.begun ∙ ap (begun_nodes c.args.round now c.args.ended.now c.args.keys.now 0) c.deref_mut.ensures.value in
    on_err c.from_residual.result
    (cut_as c.self.view_is (cut_round g.B.Bus.meaning g.R.Record.meaning c.args.round c.args.ended.now c.args.keys.now _ are c.in_err-stops.ensures.cut))

pub returns-clause-does : goal.returns-clause-does
returns-clause-does g c =
    let now = c.self.inside.moment in
    let are = c.deref_mut-2.ensures.value ∙ with_items_is c.self.inside.nodes c.begin_all.new.nodes (omega arith) ∙ c.in-Ok.ensures.begun ∙ ap (begun_nodes c.args.round now c.args.ended.now c.args.keys.now 0) c.deref_mut.ensures.value in
    let same : (with_items (with_items c.self.inside.nodes c.begin_all.new.nodes) c.do_tasks.new.nodes).items ≡ c.do_tasks.new.nodes =
    with_items_is (with_items c.self.inside.nodes c.begin_all.new.nodes) c.do_tasks.new.nodes (omega arith) in
    does_as c.self.view_is (does_round g.B.Bus.meaning g.R.Record.meaning c.args.round c.args.ended.now c.args.keys.now _ are same c.in_ok-stops.ensures.tasks)

pub returns-clause-rest : goal.returns-clause-rest
returns-clause-rest g c =
    let now = c.self.inside.moment in
    let are = c.deref_mut-2.ensures.value ∙ with_items_is c.self.inside.nodes c.begin_all.new.nodes (omega arith) ∙ c.in-Ok.ensures.begun ∙ ap (begun_nodes c.args.round now c.args.ended.now c.args.keys.now 0) c.deref_mut.ensures.value in
    let begun : KeepsNodes c.self.inside.nodes.items c.deref_mut-2.result.now =
    subst (KeepsNodes c.self.inside.nodes.items) (sym are) (begun_keeps c.args.round now c.args.ended.now c.args.keys.now 0 c.self.inside.nodes.items) in
    let same : (with_items (with_items c.self.inside.nodes c.begin_all.new.nodes) c.do_tasks.new.nodes).items ≡ c.do_tasks.new.nodes =
    with_items_is (with_items c.self.inside.nodes c.begin_all.new.nodes) c.do_tasks.new.nodes (omega arith) in
    rests_after g.B.Bus.meaning g.R.Record.meaning c.args.round c.args.ended.now c.args.keys.now _ g.met.B.Bus.frames_come c.requires.seen c.requires.keys (rests_as c.self.view_is c.requires.rest) _
    (does_round g.B.Bus.meaning g.R.Record.meaning c.args.round c.args.ended.now c.args.keys.now _ are same c.in_ok-stops.ensures.tasks)
    (subst (All IsIdle) (sym same) c.in_ok-stops.ensures.idle)
    (subst (KeepsNodes c.self.inside.nodes.items) (sym same)
    (keeps_both c.self.inside.nodes.items c.deref_mut-2.result.now c.do_tasks.new.nodes begun c.do_tasks.ensures.keeps))
    c.in_ok-stops.ensures.nodes_stay
