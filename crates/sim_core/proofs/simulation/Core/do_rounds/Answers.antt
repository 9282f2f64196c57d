-- The rounds of a moment: the first, with the frame that ended and the keys, and then the second.
use Rattle.std.proofs.Common.{All, ap, sym, subst, ◌∙◌}
use Rattle.node_rounds.specs.declared.occurrence.Occurrence.TheVariants.{Key}
use Rattle.node_run.specs.Code.{code_reaction}
use Rattle.node_run.specs.Sound.{CanOccur}
use Rattle.run_meaning.specs.Moments.{keys_at}
use Rattle.run_meaning.specs.Run.{AreRounds}
use Rattle.run_meaning.proofs.Occurring.{KeysCan, keys_at_can}
use Rattle.sim_core.specs.Core.{HaveRows, run_of}
use Rattle.sim_core.specs.Inside.Kept.{IsAtRest}
use Rattle.sim_core.proofs.Errors.{on_err}
use Rattle.sim_core.proofs.NodeLists.{rows_stay}
use Rattle.sim_core.proofs.RoundSteps.{asked_rests, both_done, cut_first, cut_seen, does_first, does_seen, first_cut, none_done, second_cut}
use Rattle.sim_core.proofs.simulation.Core.do_rounds.Goals as goal

pub returns-in_default-clause-cut : goal.returns-in_default-clause-cut
returns-in_default-clause-cut g c =
    none_done g.B.Bus.meaning g.R.Record.meaning c.args.now c.args.self.now g.met.B.Bus.frames_come c.requires.keys c.requires.rest

pub do_one-requires-clause-rest : goal.do_one-requires-clause-rest
do_one-requires-clause-rest g c =
    asked_rests g.B.Bus.meaning g.met.B.Bus.frames_come g.met.B.Bus.nodes_stay c.args.now _ c.finish-ended.ensures.state
    (subst (IsAtRest g.B.Bus.meaning c.args.now) (sym c.self.view_is) c.requires.rest)

pub do_one-requires-clause-keys : goal.do_one-requires-clause-keys
do_one-requires-clause-keys g c =
    let pressed = c.deref.ensures.value ∙ c.in-Ok.ensures ∙ ap (keys_at c.args.now) c.as_slice.ensures in
    subst (All (λ key. CanOccur (Key key))) (sym pressed) (keys_at_can CanOccur c.args.now c.self.inside.keys (subst (λ s. KeysCan CanOccur s.keys) (sym c.self.view_is) c.requires.keys))

pub do_one-requires-clause-rows : goal.do_one-requires-clause-rows
do_one-requires-clause-rows g c = subst (λ s. HaveRows c.args.meter.now s.nodes) (sym c.self.view_is) c.requires.rows

pub returns-in_err-do_one-clause-cut : goal.returns-in_err-do_one-clause-cut
returns-in_err-do_one-clause-cut g c =
    let pressed = c.deref.ensures.value ∙ c.in-Ok.ensures ∙ ap (keys_at c.args.now) c.as_slice.ensures in
    on_err c.from_residual.result
    (cut_seen (λ s. AreRounds code_reaction g.B.Bus.meaning c.args.now (run_of s)) c.self.view_is
    (first_cut g.B.Bus.meaning g.R.Record.meaning c.args.now _ g.met.B.Bus.frames_come (subst (λ s. KeysCan CanOccur s.keys) (sym c.self.view_is) c.requires.keys)
    (subst (IsAtRest g.B.Bus.meaning c.args.now) (sym c.self.view_is) c.requires.rest)
    (cut_first g.B.Bus.meaning g.R.Record.meaning _ c.args.now c.finish-ended.ensures.frame c.finish-ended.ensures.state pressed c.in_err-do_one.ensures.cut)))

pub do_second-requires-clause-rows : goal.do_second-requires-clause-rows
do_second-requires-clause-rows g c =
    rows_stay c.self.inside.nodes.items c.do_one.new.self.nodes c.args.meter.now c.do_one.new.meter c.do_one.ensures.stays.nodes c.do_one.ensures.as_many_rows
    (subst (λ s. HaveRows c.args.meter.now s.nodes) (sym c.self.view_is) c.requires.rows)

pub returns-in_err-do_second-clause-cut : goal.returns-in_err-do_second-clause-cut
returns-in_err-do_second-clause-cut g c =
    let pressed = c.deref.ensures.value ∙ c.in-Ok.ensures ∙ ap (keys_at c.args.now) c.as_slice.ensures in
    on_err c.from_residual-in_err-do_second.result
    (cut_seen (λ s. AreRounds code_reaction g.B.Bus.meaning c.args.now (run_of s)) c.self.view_is
    (second_cut g.B.Bus.meaning g.R.Record.meaning c.args.now _ c.do_one.new.self c.do_one.ensures.stays.nodes c.do_one.ensures.stays.moment
    (does_first g.B.Bus.meaning g.R.Record.meaning _ c.args.now c.finish-ended.ensures.frame c.finish-ended.ensures.state pressed c.in_ok-do_one.ensures.does)
    c.in_err-do_second.ensures.cut))

pub returns-clause-does : goal.returns-clause-does
returns-clause-does g c =
    let pressed = c.deref.ensures.value ∙ c.in-Ok.ensures ∙ ap (keys_at c.args.now) c.as_slice.ensures in
    does_seen (λ s. AreRounds code_reaction g.B.Bus.meaning c.args.now (run_of s)) c.self.view_is
    (both_done g.B.Bus.meaning g.R.Record.meaning c.args.now _ c.do_one.new.self c.do_one.ensures.stays.nodes c.do_one.ensures.stays.moment
    (does_first g.B.Bus.meaning g.R.Record.meaning _ c.args.now c.finish-ended.ensures.frame c.finish-ended.ensures.state pressed c.in_ok-do_one.ensures.does)
    c.in_ok-do_second.ensures.does)
