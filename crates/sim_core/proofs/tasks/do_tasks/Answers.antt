-- The tasks of a round.
use Rattle.std.proofs.Common.{ℕ, List, arith, sym, subst, ◌∙◌}
use Rattle.std.specs.Prelude.{◌||◌}
use Rattle.sim_core.specs.Inside.Kept.{IsIdle}
use Rattle.sim_core.proofs.Errors.{on_err}
use Rattle.sim_core.proofs.NodeLists.{by_index, keeps_long, rows_stay}
use Rattle.sim_core.proofs.OpenList.{chosen_is, still_listed}
use Rattle.sim_core.proofs.TaskLoop.{HasGone, all_idle, gone_all, gone_cut, gone_less, gone_more, gone_none, is_open}
use Rattle.sim_core.proofs.tasks.do_tasks.Goals as goal

pub loop-place-init : goal.loop-place-init
loop-place-init g c = record {
  gone = gone_none g.B.Bus.meaning g.met.B.Bus.requests_commute g.met.B.Bus.nodes_stay g.R.Record.meaning c.args.now c.args.nodes.now c.args.bus.now c.args.picks.now c.args.into.now c.args.meter.now c.requires.own;
  listed = c.requires.listed;
}

pub do_task_of-requires-clause-within : goal.do_task_of-requires-clause-within
do_task_of-requires-clause-within g c =
    (is_open c.loop-place.nodes c.loop-place.picks c.index-number.result.now (chosen_is c.loop-place.nodes c.loop-place.open_ones.items c.deref.result.now c.loop-place.picks c.as_slice.result.now c.next_pick.result c.in-Some.place c.index-number.result.now c.loop-place.invariant.listed c.deref.ensures.value c.as_slice.ensures c.next_pick.ensures c.in-Some.ensures.some c.in-Some.ensures.within c.index-number.ensures)).0

pub do_task_of-requires-clause-has_task : goal.do_task_of-requires-clause-has_task
do_task_of-requires-clause-has_task g c =
    (is_open c.loop-place.nodes c.loop-place.picks c.index-number.result.now (chosen_is c.loop-place.nodes c.loop-place.open_ones.items c.deref.result.now c.loop-place.picks c.as_slice.result.now c.next_pick.result c.in-Some.place c.index-number.result.now c.loop-place.invariant.listed c.deref.ensures.value c.as_slice.ensures c.next_pick.ensures c.in-Some.ensures.some c.in-Some.ensures.within c.index-number.ensures)).1

pub do_task_of-requires-clause-rows : goal.do_task_of-requires-clause-rows
do_task_of-requires-clause-rows g c =
    rows_stay c.args.nodes.now c.loop-place.nodes c.args.meter.now c.loop-place.meter c.loop-place.invariant.gone.keeps c.loop-place.invariant.gone.rows_long c.requires.rows

pub do_task_of-requires-clause-serves : goal.do_task_of-requires-clause-serves
do_task_of-requires-clause-serves g c =
    let long = c.loop-place.invariant.gone.long in let serves = c.loop-place.invariant.gone.serves in omega (arith, long, serves, c.requires.serves)

pub returns-in_err-asks-clause-cut : goal.returns-in_err-asks-clause-cut
returns-in_err-asks-clause-cut g c =
    on_err c.from_residual.result
    (gone_cut g.B.Bus.meaning g.met.B.Bus.requests_commute g.met.B.Bus.nodes_stay g.R.Record.meaning c.args.now c.args.nodes.now c.args.bus.now c.args.picks.now c.args.into.now c.args.meter.now
    c.loop-place.stops c.loop-place.nodes c.loop-place.bus c.loop-place.picks c.loop-place.into c.loop-place.meter c.index-number.result.now c.do_task_of.new.into c.do_task_of.new.meter
    c.loop-place.invariant.gone (chosen_is c.loop-place.nodes c.loop-place.open_ones.items c.deref.result.now c.loop-place.picks c.as_slice.result.now c.next_pick.result c.in-Some.place c.index-number.result.now c.loop-place.invariant.listed c.deref.ensures.value c.as_slice.ensures c.next_pick.ensures c.in-Some.ensures.some c.in-Some.ensures.within c.index-number.ensures)
    c.in_err-asks.ensures.cut)

pub returns-in_err-asks-clause-faults_stay : goal.returns-in_err-asks-clause-faults_stay
returns-in_err-asks-clause-faults_stay g c = let before = c.loop-place.invariant.gone.faults_stay in omega (arith, before, c.do_task_of.ensures.faults_stay)

pub returns-in_err-asks-clause-keeps : goal.returns-in_err-asks-clause-keeps
returns-in_err-asks-clause-keeps g c = record {
  rows = c.do_task_of.ensures.keeps.rows ∙ c.loop-place.invariant.gone.keeps.rows;
  codes = c.do_task_of.ensures.keeps.codes ∙ c.loop-place.invariant.gone.keeps.codes;
}

pub returns-in_err-asks-clause-as_many_rows : goal.returns-in_err-asks-clause-as_many_rows
returns-in_err-asks-clause-as_many_rows g c = c.do_task_of.ensures.as_many_rows ∙ c.loop-place.invariant.gone.rows_long

pub loop-place-smaller : goal.loop-place-smaller
loop-place-smaller g c =
    gone_less g.B.Bus.meaning g.met.B.Bus.requests_commute g.met.B.Bus.nodes_stay g.R.Record.meaning c.args.now c.args.nodes.now c.args.bus.now c.args.picks.now c.args.into.now c.args.meter.now
    c.loop-place.stops c.loop-place.nodes c.loop-place.bus c.loop-place.picks c.loop-place.into c.loop-place.meter c.index-number.result.now c.in_ok-asks.asks
    c.do_task_of.new.nodes c.do_task_of.new.bus c.do_task_of.new.into c.do_task_of.new.meter c.loop-place.invariant.gone c.in_ok-asks.ensures.does

pub loop-place-preserved : goal.loop-place-preserved
loop-place-preserved g c = record {
  gone = subst (λ (left : List ℕ). HasGone g.B.Bus.meaning g.R.Record.meaning c.args.now c.args.nodes.now c.args.bus.now c.args.picks.now c.args.into.now c.args.meter.now
      (c.loop-place.stops || c.in_ok-asks.asks) c.do_task_of.new.nodes c.do_task_of.new.bus left c.do_task_of.new.into c.do_task_of.new.meter) (sym c.pass.ensures)
      (gone_more g.B.Bus.meaning g.met.B.Bus.requests_commute g.met.B.Bus.nodes_stay g.R.Record.meaning c.args.now c.args.nodes.now c.args.bus.now c.args.picks.now c.args.into.now c.args.meter.now
      c.loop-place.stops c.loop-place.nodes c.loop-place.bus c.loop-place.picks c.loop-place.into c.loop-place.meter c.index-number.result.now c.in_ok-asks.asks
      c.do_task_of.new.nodes c.do_task_of.new.bus c.do_task_of.new.into c.do_task_of.new.meter c.loop-place.invariant.gone
      (chosen_is c.loop-place.nodes c.loop-place.open_ones.items c.deref.result.now c.loop-place.picks c.as_slice.result.now c.next_pick.result c.in-Some.place c.index-number.result.now c.loop-place.invariant.listed c.deref.ensures.value c.as_slice.ensures c.next_pick.ensures c.in-Some.ensures.some c.in-Some.ensures.within c.index-number.ensures)
      c.in_ok-asks.ensures.does c.do_task_of.ensures.keeps (keeps_long c.loop-place.nodes c.do_task_of.new.nodes c.do_task_of.ensures.keeps)
      c.do_task_of.ensures.as_many_rows c.do_task_of.ensures.faults_stay);
  listed = c.leave_if_done.ensures
      ∙ still_listed c.loop-place.nodes c.do_task_of.new.nodes c.loop-place.open_ones.items c.deref.result.now c.in-Some.place c.index-number.result.now c.in_ok-asks.ensures.does.node c.in_ok-asks.ensures.does.after
      c.index-nodes-number.result c.loop-place.invariant.listed c.deref.ensures.value c.in-Some.ensures.within c.index-number.ensures c.in_ok-asks.ensures.does.at c.in_ok-asks.ensures.does.nodes_are;
}

pub returns-clause-tasks : goal.returns-clause-tasks
returns-clause-tasks g c =
    gone_all g.B.Bus.meaning g.met.B.Bus.requests_commute g.met.B.Bus.nodes_stay g.R.Record.meaning c.args.now c.args.nodes.now c.args.bus.now c.args.picks.now c.args.into.now c.args.meter.now
    c.loop-place.stops c.loop-place.nodes c.loop-place.bus c.loop-place.picks c.loop-place.into c.loop-place.meter c.loop-place.invariant.gone
    (sym c.loop-place.invariant.listed ∙ sym c.deref.ensures.value ∙ c.next_place.ensures.none c.in_default.is)

pub returns-clause-idle : goal.returns-clause-idle
returns-clause-idle g c =
    by_index IsIdle c.loop-place.nodes (all_idle 0 c.loop-place.nodes (sym c.loop-place.invariant.listed ∙ sym c.deref.ensures.value ∙ c.next_place.ensures.none c.in_default.is))

pub returns-clause-faults_stay : goal.returns-clause-faults_stay
returns-clause-faults_stay g c = c.loop-place.invariant.gone.faults_stay

pub returns-clause-keeps : goal.returns-clause-keeps
returns-clause-keeps g c = c.loop-place.invariant.gone.keeps

pub returns-clause-nodes_stay : goal.returns-clause-nodes_stay
returns-clause-nodes_stay g c = c.loop-place.invariant.gone.serves

pub returns-clause-as_many_rows : goal.returns-clause-as_many_rows
returns-clause-as_many_rows g c = c.loop-place.invariant.gone.rows_long
