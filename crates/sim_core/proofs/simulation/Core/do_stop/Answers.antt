-- The round of the stop.
use Rattle.std.proofs.Common.{[], None, subst, sym}
use Rattle.node_rounds.specs.declared.round.Round.TheVariants as round
use Rattle.sim_core.specs.Core.{HaveRows}
use Rattle.sim_core.specs.Inside.Kept.{IsAtRest, IsCore}
use Rattle.sim_core.specs.Inside.Rounds.{DoesRound, IsRoundCut}
use Rattle.sim_core.proofs.Errors.{on_err}
use Rattle.sim_core.proofs.RunLemmas.{at_end, end_rest, stop_cut, stop_done}
use Rattle.sim_core.proofs.simulation.Core.do_stop.Goals as goal

pub do_round-requires-clause-rest : goal.do_round-requires-clause-rest
do_round-requires-clause-rest g c =
    let bus = g.B.Bus.meaning in
    let end = c.end_moment-self-inside.result in
    subst (λ core. IsAtRest bus end (at_end end core)) (sym c.self.view_is)
    (end_rest bus g.met.B.Bus.frames_come c.args.self.now end (subst (IsCore bus) c.self.view_is c.self.invariant) c.requires.over.has_begun c.end_moment-self-inside.ensures.ends)

pub do_round-requires-clause-rows : goal.do_round-requires-clause-rows
do_round-requires-clause-rows g c = subst (λ core. HaveRows c.args.meter.now core.nodes) (sym c.self.view_is) c.requires.rows

pub returns-in_err-do_round-clause-cut : goal.returns-in_err-do_round-clause-cut
returns-in_err-do_round-clause-cut g c =
    let bus = g.B.Bus.meaning in
    let end = c.end_moment-self-inside.result in
    on_err c.from_residual.result
    (stop_cut bus c.args.self.now end c.end_moment-self-inside.ensures.ends g.R.Record.meaning c.args.into.now c.do_round.new.into c.args.meter.now c.do_round.new.meter
    (subst (λ core. IsRoundCut bus g.R.Record.meaning round.Stop None [] (at_end end core) c.args.into.now c.do_round.new.into c.args.meter.now c.do_round.new.meter) c.self.view_is
    c.in_err-do_round.ensures.cut))

pub returns-clause-does : goal.returns-clause-does
returns-clause-does g c =
    let bus = g.B.Bus.meaning in
    let end = c.end_moment-self-inside.result in
    stop_done bus c.args.self.now end c.end_moment-self-inside.ensures.ends g.R.Record.meaning c.args.into.now c.do_round.new.into c.args.meter.now c.do_round.new.meter c.do_round.new.self
    (subst (λ core. DoesRound bus g.R.Record.meaning round.Stop None [] (at_end end core) c.args.into.now c.args.meter.now c.do_round.new.self c.do_round.new.into c.do_round.new.meter) c.self.view_is
    c.in_ok-do_round.ensures.does)
