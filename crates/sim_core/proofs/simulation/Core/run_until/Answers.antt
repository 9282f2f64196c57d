-- The run, instant by instant.
use Rattle.std.proofs.Common.{arith}
use Rattle.sim_core.proofs.Errors.{on_err}
use Rattle.sim_core.proofs.RunLemmas.{first_cut, gone_cut, gone_first, gone_less, gone_more, gone_stop_cut, gone_stopped}
use Rattle.sim_core.proofs.simulation.Core.run_until.Goals as goal

pub returns-in_err-begin-clause-cut : goal.returns-in_err-begin-clause-cut
returns-in_err-begin-clause-cut g c =
    on_err c.from_residual.result
    (first_cut g.B.Bus.meaning g.R.Record.meaning c.args.self.now c.args.into.now c.args.meter.now g.met.B.Bus.frames_come g.met.B.Bus.sound_stays g.met.B.Bus.due_later g.met.B.Bus.due_later_from_nothing c.begin.new.into c.begin.new.meter
    c.requires.is_new c.begin.ensures.stands c.in_err-begin.ensures.cut)

pub loop-moment-init : goal.loop-moment-init
loop-moment-init g c =
    gone_first g.B.Bus.meaning g.R.Record.meaning c.args.self.now c.args.into.now c.args.meter.now c.begin.new.self c.begin.new.into c.begin.new.meter
    c.requires.is_new c.in_ok-begin.ensures.does c.requires.rows c.begin.ensures.as_many_rows c.begin.ensures.faults_stay

pub loop-moment-smaller : goal.loop-moment-smaller
loop-moment-smaller g c =
    let both = gone_less g.B.Bus.meaning g.R.Record.meaning c.args.self.now c.args.into.now c.args.meter.now c.loop-moment.self c.loop-moment.into c.loop-moment.meter c.loop-moment.invariant g.met.B.Bus.frames_come g.met.B.Bus.sound_stays g.met.B.Bus.due_later g.met.B.Bus.due_later_from_nothing
    c.do_instant.new.self c.do_instant.new.into c.do_instant.new.meter c.next_instant.ensures.stands c.in_ok-do_instant.ensures.does in
    let later = both.0 in let in_time = both.1 in omega (arith, later, in_time)

pub loop-moment-preserved : goal.loop-moment-preserved
loop-moment-preserved g c =
    gone_more g.B.Bus.meaning g.R.Record.meaning c.args.self.now c.args.into.now c.args.meter.now c.loop-moment.self c.loop-moment.into c.loop-moment.meter c.loop-moment.invariant g.met.B.Bus.frames_come
    c.do_instant.new.self c.do_instant.new.into c.do_instant.new.meter c.in_ok-do_instant.ensures.does c.do_instant.ensures.as_many_rows c.do_instant.ensures.faults_stay

pub returns-in_err-do_instant-clause-cut : goal.returns-in_err-do_instant-clause-cut
returns-in_err-do_instant-clause-cut g c =
    on_err c.from_residual-in_err-do_instant.result
    (gone_cut g.B.Bus.meaning g.R.Record.meaning c.args.self.now c.args.into.now c.args.meter.now c.loop-moment.self c.loop-moment.into c.loop-moment.meter c.loop-moment.invariant g.met.B.Bus.frames_come g.met.B.Bus.sound_stays g.met.B.Bus.due_later g.met.B.Bus.due_later_from_nothing
    c.do_instant.new.into c.do_instant.new.meter c.next_instant.ensures.stands c.in_err-do_instant.ensures.cut)

pub returns-in_err-do_stop-clause-cut : goal.returns-in_err-do_stop-clause-cut
returns-in_err-do_stop-clause-cut g c =
    on_err c.from_residual-in_err-do_stop.result
    (gone_stop_cut g.B.Bus.meaning g.R.Record.meaning c.args.self.now c.args.into.now c.args.meter.now c.loop-moment.self c.loop-moment.into c.loop-moment.meter c.loop-moment.invariant g.met.B.Bus.frames_come
    c.do_stop.new.into c.do_stop.new.meter c.in_err-do_stop.ensures.cut)

pub returns-clause-runs : goal.returns-clause-runs
returns-clause-runs g c =
    gone_stopped g.B.Bus.meaning g.R.Record.meaning c.args.self.now c.args.into.now c.args.meter.now c.loop-moment.self c.loop-moment.into c.loop-moment.meter c.loop-moment.invariant g.met.B.Bus.frames_come
    c.do_stop.new.self c.do_stop.new.into c.do_stop.new.meter c.in_ok-do_stop.ensures.does
