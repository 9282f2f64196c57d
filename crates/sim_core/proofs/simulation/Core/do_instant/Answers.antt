-- The instant at the next moment.
use Rattle.std.proofs.Common.{All, subst, sym, ◌∙◌}
use Rattle.node_run.specs.Code.{code_reaction}
use Rattle.run_meaning.specs.Run.{AreRounds}
use Rattle.sim_core.specs.Core.{DoesInstant, HaveRows, KeepsCore, run_of}
use Rattle.sim_core.specs.Inside.Kept.{IsAtRest, IsCore, IsIdle}
use Rattle.sim_core.specs.Inside.Rounds.{AreRoundsCut, DoesRounds}
use Rattle.sim_core.proofs.Errors.{on_err}
use Rattle.sim_core.proofs.InstantLemmas.{going, instant_core, instant_cut, instant_cut_after, instant_done, instant_is, next_rest, over}
use Rattle.sim_core.proofs.simulation.Core.do_instant.Goals as goal

pub do_rounds-requires-clause-rest : goal.do_rounds-requires-clause-rest
do_rounds-requires-clause-rest g c =
    subst (λ core. IsAtRest g.B.Bus.meaning c.args.now (over core)) (sym c.self.view_is)
    (next_rest g.B.Bus.meaning g.met.B.Bus.frames_come c.args.self.now c.args.now (subst (IsCore g.B.Bus.meaning) c.self.view_is c.self.invariant) c.requires.going c.requires.next)

pub do_rounds-requires-clause-rows : goal.do_rounds-requires-clause-rows
do_rounds-requires-clause-rows g c = subst (λ core. HaveRows c.args.meter.now core.nodes) (sym c.self.view_is) c.requires.rows

pub returns-in_err-do_rounds-clause-cut : goal.returns-in_err-do_rounds-clause-cut
returns-in_err-do_rounds-clause-cut g c =
    on_err c.from_residual.result
    (instant_cut g.B.Bus.meaning g.R.Record.meaning c.args.self.now c.args.now c.args.into.now c.args.meter.now c.requires.going c.requires.goes_on c.requires.next c.requires.in_time
    c.do_rounds.new.into c.do_rounds.new.meter
    (subst (λ core. AreRoundsCut g.R.Record.meaning (AreRounds code_reaction g.B.Bus.meaning c.args.now (run_of core)) (over core)
    c.args.into.now c.do_rounds.new.into c.args.meter.now c.do_rounds.new.meter) c.self.view_is c.in_err-do_rounds.ensures.cut))

pub returns-in_default-clause-cut : goal.returns-in_default-clause-cut
returns-in_default-clause-cut g c =
    instant_cut_after g.B.Bus.meaning g.R.Record.meaning c.args.self.now c.args.now c.args.into.now c.args.meter.now c.requires.going c.requires.goes_on c.requires.next c.requires.in_time
    c.do_rounds.new.self c.do_rounds.new.into c.do_rounds.new.meter
    (subst (λ core. DoesRounds g.R.Record.meaning (AreRounds code_reaction g.B.Bus.meaning c.args.now (run_of core)) (over core)
    c.args.into.now c.args.meter.now c.do_rounds.new.self c.do_rounds.new.into c.do_rounds.new.meter) c.self.view_is c.in_ok-do_rounds.ensures.does)

pub invariant_of-self-2 : goal.invariant_of-self-2
invariant_of-self-2 g c =
    let bus = g.B.Bus.meaning in
    let does = subst (λ core. DoesRounds g.R.Record.meaning (AreRounds code_reaction bus c.args.now (run_of core)) (over core)
    c.args.into.now c.args.meter.now c.do_rounds.new.self c.do_rounds.new.into c.do_rounds.new.meter) c.self.view_is c.in_ok-do_rounds.ensures.does in
    let keeps = subst (λ core. KeepsCore (over core) c.do_rounds.new.self) c.self.view_is c.do_rounds.ensures.keeps in
    let settled = subst (IsCore bus) c.self-2.view_is c.self-2.invariant in
    subst (λ core. IsCore bus (going core)) (sym c.self-2.view_is)
    (instant_core bus g.met.B.Bus.frames_come g.met.B.Bus.sound_stays g.met.B.Bus.due_later g.met.B.Bus.due_later_from_nothing c.args.self.now c.settle.new.self does.rounds
    (subst (IsCore bus) c.self.view_is c.self.invariant) c.requires.going
    (instant_is bus g.R.Record.meaning c.args.self.now c.args.now c.args.into.now c.args.meter.now c.requires.going c.requires.goes_on c.requires.next c.requires.in_time
    c.do_rounds.new.self c.do_rounds.new.into c.do_rounds.new.meter does c.settle.new.self c.in-Ok.ensures.settles)
    (subst (λ nodes. All IsIdle nodes) (sym c.settle.ensures.nodes) c.in_ok-do_rounds.ensures.rest.idle) c.in-Ok.ensures.serves settled.few (c.settle.ensures.until ∙ keeps.until))

pub returns-clause-does : goal.returns-clause-does
returns-clause-does g c =
    let bus = g.B.Bus.meaning in
    let does = subst (λ core. DoesRounds g.R.Record.meaning (AreRounds code_reaction bus c.args.now (run_of core)) (over core)
    c.args.into.now c.args.meter.now c.do_rounds.new.self c.do_rounds.new.into c.do_rounds.new.meter) c.self.view_is c.in_ok-do_rounds.ensures.does in
    let keeps = subst (λ core. KeepsCore (over core) c.do_rounds.new.self) c.self.view_is c.do_rounds.ensures.keeps in
    subst (λ core. DoesInstant bus g.R.Record.meaning c.args.self.now c.args.into.now c.args.meter.now (going core) c.do_rounds.new.into c.do_rounds.new.meter) (sym c.self-2.view_is)
    (instant_done bus g.R.Record.meaning c.args.self.now c.args.now c.args.into.now c.args.meter.now c.requires.going c.requires.goes_on c.requires.next c.requires.in_time
    c.do_rounds.new.self c.do_rounds.new.into c.do_rounds.new.meter does c.settle.new.self c.in-Ok.ensures.settles c.settle.ensures.nodes c.settle.ensures.picks c.settle.ensures.until keeps)
