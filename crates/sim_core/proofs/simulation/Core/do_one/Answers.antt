-- One round of a moment: the frame that ended, and then the tasks.
use Rattle.std.proofs.Common.{ap}
use Rattle.sim_core.proofs.Errors.{on_err}
use Rattle.sim_core.proofs.RoundSteps.{one_cut, one_done, one_refused}
use Rattle.sim_core.proofs.simulation.Core.do_one.Goals as goal

pub returns-in_err-record_ended-clause-cut : goal.returns-in_err-record_ended-clause-cut
returns-in_err-record_ended-clause-cut g c =
    on_err c.from_residual.result
    (one_refused g.B.Bus.meaning g.R.Record.meaning c.args.ended.now c.args.keys.now c.args.self.now g.met.B.Bus.frames_come c.requires.seen c.requires.keys c.requires.rest
    (ap (λ s. s.moment) c.self.view_is) c.in_err-record_ended.ensures.refused)

pub returns-in_err-do_round-clause-cut : goal.returns-in_err-do_round-clause-cut
returns-in_err-do_round-clause-cut g c =
    on_err c.from_residual-in_err-do_round.result
    (one_cut g.B.Bus.meaning g.R.Record.meaning c.args.ended.now c.args.keys.now c.args.self.now
    (ap (λ s. s.moment) c.self.view_is) c.in_ok-record_ended.ensures.taken c.in_err-do_round.ensures.cut)

pub returns-clause-does : goal.returns-clause-does
returns-clause-does g c =
    one_done g.B.Bus.meaning g.R.Record.meaning c.args.ended.now c.args.keys.now c.args.self.now
    (ap (λ s. s.moment) c.self.view_is) c.in_ok-record_ended.ensures.taken c.in_ok-do_round.ensures.does
