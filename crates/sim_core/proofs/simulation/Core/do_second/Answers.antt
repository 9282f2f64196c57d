-- The second round of a moment: there is one where the bus gives one more frame.
use Rattle.std.proofs.Common.{sym, subst, ◌∙◌}
use Rattle.sim_core.specs.Core.{HaveRows}
use Rattle.sim_core.proofs.Errors.{on_err}
use Rattle.sim_core.proofs.Lefts.{is_none}
use Rattle.sim_core.proofs.RoundLemmas.{rests_as}
use Rattle.sim_core.proofs.RoundSteps.{SecondOf, asked_rests, cut_second, cut_seen, does_seen, no_second}
use Rattle.sim_core.proofs.simulation.Core.do_second.Goals as goal

pub do_one-requires-clause-rest : goal.do_one-requires-clause-rest
do_one-requires-clause-rest g c =
    asked_rests g.B.Bus.meaning g.met.B.Bus.frames_come g.met.B.Bus.nodes_stay c.self.inside.moment _ c.finish-more.ensures.state (rests_as c.self.view_is c.requires.rest)

pub do_one-requires-clause-rows : goal.do_one-requires-clause-rows
do_one-requires-clause-rows g c = subst (λ s. HaveRows c.args.meter.now s.nodes) (sym c.self.view_is) c.requires.rows

pub returns-in_err-do_one-clause-cut : goal.returns-in_err-do_one-clause-cut
returns-in_err-do_one-clause-cut g c =
    on_err c.from_residual.result
    (cut_seen (SecondOf g.B.Bus.meaning) c.self.view_is
    (cut_second g.B.Bus.meaning g.R.Record.meaning _ c.finish-more.ensures.frame c.finish-more.ensures.state (sym c.is_some.ensures ∙ c.if-is_some.true) c.in_err-do_one.ensures.cut))

pub returns-else-is_some-clause-does : goal.returns-else-is_some-clause-does
returns-else-is_some-clause-does g c =
    does_seen (SecondOf g.B.Bus.meaning) c.self.view_is
    (no_second g.B.Bus.meaning g.R.Record.meaning _ c.finish-more.ensures.frame c.finish-more.ensures.state (is_none c.finish-more.result (sym c.is_some.ensures ∙ c.if-is_some.false)))

pub returns-else-is_some-clause-rest : goal.returns-else-is_some-clause-rest
returns-else-is_some-clause-rest g c =
    asked_rests g.B.Bus.meaning g.met.B.Bus.frames_come g.met.B.Bus.nodes_stay c.self.inside.moment _ c.finish-more.ensures.state (rests_as c.self.view_is c.requires.rest)
