-- The instant at moment 0.
use Rattle.std.proofs.Common.{All, [], None, ap, subst, sym, ◌∙◌}
use Rattle.node_rounds.specs.declared.occurrence.Occurrence.TheVariants.{Key}
use Rattle.node_rounds.specs.declared.round.Round.TheVariants as round
use Rattle.node_run.specs.Sound.{CanOccur}
use Rattle.run_meaning.specs.Moments.{keys_at}
use Rattle.sim_core.specs.Core.{DoesInstant, HaveRows}
use Rattle.sim_core.specs.Inside.Kept.{IsAtRest, IsCore, IsIdle}
use Rattle.sim_core.specs.Inside.Rounds.{DoesRound, IsRoundCut, StaysInRound}
use Rattle.sim_core.proofs.Errors.{on_err}
use Rattle.sim_core.proofs.InstantLemmas.{begin_cut, begin_cut_after, begin_cut_first, begin_done, begun_core, begun_is, first_keys_can, fresh_rest, going, over, stands_begun, start_cut}
use Rattle.sim_core.proofs.NodeLists.{rows_stay}
use Rattle.sim_core.proofs.simulation.Core.begin.Goals as goal

pub returns-in_default-clause-cut : goal.returns-in_default-clause-cut
returns-in_default-clause-cut g c =
    let bus = g.B.Bus.meaning in
    let is = subst (IsCore bus) c.self.view_is c.self.invariant in
    begin_cut_first bus g.met.B.Bus.frames_come c.args.self.now (is.fresh c.requires.is_new) g.R.Record.meaning c.requires.is_new c.args.into.now c.args.meter.now

pub do_round-requires-clause-rest : goal.do_round-requires-clause-rest
do_round-requires-clause-rest g c =
    let bus = g.B.Bus.meaning in
    let is = subst (IsCore bus) c.self.view_is c.self.invariant in
    subst (λ core. IsAtRest bus core.moment (over core)) (sym c.self.view_is) (fresh_rest bus g.met.B.Bus.frames_come c.args.self.now is c.requires.is_new)

pub do_round-requires-clause-rows : goal.do_round-requires-clause-rows
do_round-requires-clause-rows g c =
    subst (λ core. HaveRows c.args.meter.now core.nodes) (sym c.self.view_is) c.requires.rows

pub returns-in_err-do_round-clause-cut : goal.returns-in_err-do_round-clause-cut
returns-in_err-do_round-clause-cut g c =
    let bus = g.B.Bus.meaning in
    let is = subst (IsCore bus) c.self.view_is c.self.invariant in
    on_err c.from_residual.result
    (begin_cut bus g.met.B.Bus.frames_come c.args.self.now (is.fresh c.requires.is_new) g.R.Record.meaning c.requires.is_new c.args.into.now c.args.meter.now c.do_round.new.into c.do_round.new.meter
    (subst (λ core. IsRoundCut bus g.R.Record.meaning round.PreStart None [] (over core) c.args.into.now c.do_round.new.into c.args.meter.now c.do_round.new.meter) c.self.view_is
    c.in_err-do_round.ensures.cut))

pub do_round-requires-2-clause-keys : goal.do_round-requires-2-clause-keys
do_round-requires-2-clause-keys g c =
    let bus = g.B.Bus.meaning in
    let is = subst (IsCore bus) c.self.view_is c.self.invariant in
    let keys_are = c.deref.ensures.value ∙ c.in-Ok.ensures ∙ ap (keys_at 0) (c.as_slice.ensures ∙ ap (λ core. core.keys) c.self.view_is) in
    subst (λ keys. All (λ key. CanOccur (Key key)) keys) (sym keys_are) (first_keys_can bus g.met.B.Bus.frames_come c.args.self.now (is.fresh c.requires.is_new))

pub do_round-requires-2-clause-rows : goal.do_round-requires-2-clause-rows
do_round-requires-2-clause-rows g c =
    let bus = g.B.Bus.meaning in
    let stays = subst (λ core. StaysInRound (over core) c.do_round.new.self) c.self.view_is c.do_round.ensures.stays in
    rows_stay c.args.self.now.nodes c.do_round.new.self.nodes c.args.meter.now c.do_round.new.meter stays.nodes c.do_round.ensures.as_many_rows c.requires.rows

pub returns-in_err-do_round-2-clause-cut : goal.returns-in_err-do_round-2-clause-cut
returns-in_err-do_round-2-clause-cut g c =
    let bus = g.B.Bus.meaning in
    let is = subst (IsCore bus) c.self.view_is c.self.invariant in
    let first = subst (λ core. DoesRound bus g.R.Record.meaning round.PreStart None [] (over core) c.args.into.now c.args.meter.now c.do_round.new.self c.do_round.new.into c.do_round.new.meter)
    c.self.view_is c.in_ok-do_round.ensures.does in
    let stays = subst (λ core. StaysInRound (over core) c.do_round.new.self) c.self.view_is c.do_round.ensures.stays in
    let keys_are = c.deref.ensures.value ∙ c.in-Ok.ensures ∙ ap (keys_at 0) (c.as_slice.ensures ∙ ap (λ core. core.keys) c.self.view_is) in
    on_err c.from_residual-in_err-do_round-2.result
    (start_cut bus g.met.B.Bus.frames_come c.args.self.now (is.fresh c.requires.is_new) g.R.Record.meaning c.requires.is_new c.args.into.now c.args.meter.now c.do_round.new.self c.do_round.new.into c.do_round.new.meter first stays c.do_round-2.new.into c.do_round-2.new.meter
    (subst (λ keys. IsRoundCut bus g.R.Record.meaning round.Start None keys c.do_round.new.self c.do_round.new.into c.do_round-2.new.into c.do_round.new.meter c.do_round-2.new.meter) keys_are
    c.in_err-do_round-2.ensures.cut))

pub returns-in_default-settle-clause-cut : goal.returns-in_default-settle-clause-cut
returns-in_default-settle-clause-cut g c =
    let bus = g.B.Bus.meaning in
    let is = subst (IsCore bus) c.self.view_is c.self.invariant in
    let first = subst (λ core. DoesRound bus g.R.Record.meaning round.PreStart None [] (over core) c.args.into.now c.args.meter.now c.do_round.new.self c.do_round.new.into c.do_round.new.meter)
    c.self.view_is c.in_ok-do_round.ensures.does in
    let stays = subst (λ core. StaysInRound (over core) c.do_round.new.self) c.self.view_is c.do_round.ensures.stays in
    let keys_are = c.deref.ensures.value ∙ c.in-Ok.ensures ∙ ap (keys_at 0) (c.as_slice.ensures ∙ ap (λ core. core.keys) c.self.view_is) in
    let second = subst (λ keys. DoesRound bus g.R.Record.meaning round.Start None keys c.do_round.new.self c.do_round.new.into c.do_round.new.meter c.do_round-2.new.self c.do_round-2.new.into c.do_round-2.new.meter)
    keys_are c.in_ok-do_round-2.ensures.does in
    begin_cut_after bus g.met.B.Bus.frames_come c.args.self.now (is.fresh c.requires.is_new) g.R.Record.meaning c.requires.is_new c.args.into.now c.args.meter.now c.do_round.new.self c.do_round.new.into c.do_round.new.meter first stays c.do_round-2.new.self c.do_round-2.new.into c.do_round-2.new.meter second

pub invariant_of-self-3 : goal.invariant_of-self-3
invariant_of-self-3 g c =
    let bus = g.B.Bus.meaning in
    let is = subst (IsCore bus) c.self.view_is c.self.invariant in
    let first = subst (λ core. DoesRound bus g.R.Record.meaning round.PreStart None [] (over core) c.args.into.now c.args.meter.now c.do_round.new.self c.do_round.new.into c.do_round.new.meter)
    c.self.view_is c.in_ok-do_round.ensures.does in
    let stays = subst (λ core. StaysInRound (over core) c.do_round.new.self) c.self.view_is c.do_round.ensures.stays in
    let keys_are = c.deref.ensures.value ∙ c.in-Ok.ensures ∙ ap (keys_at 0) (c.as_slice.ensures ∙ ap (λ core. core.keys) c.self.view_is) in
    let second = subst (λ keys. DoesRound bus g.R.Record.meaning round.Start None keys c.do_round.new.self c.do_round.new.into c.do_round.new.meter c.do_round-2.new.self c.do_round-2.new.into c.do_round-2.new.meter)
    keys_are c.in_ok-do_round-2.ensures.does in
    let settled = subst (IsCore bus) c.self-2.view_is c.self-2.invariant in
    subst (λ core. IsCore bus (going core)) (sym c.self-2.view_is)
    (begun_core bus g.met.B.Bus.frames_come c.args.self.now g.met.B.Bus.sound_stays g.met.B.Bus.due_later g.met.B.Bus.due_later_from_nothing is c.requires.is_new c.settle.new.self _
    (begun_is bus g.met.B.Bus.frames_come c.args.self.now (is.fresh c.requires.is_new) g.R.Record.meaning c.requires.is_new c.args.into.now c.args.meter.now c.do_round.new.self c.do_round.new.into c.do_round.new.meter first stays c.do_round-2.new.self c.do_round-2.new.into c.do_round-2.new.meter second c.settle.new.self c.in-Ok-settle.ensures.settles)
    (subst (λ nodes. All IsIdle nodes) (sym c.settle.ensures.nodes) c.in_ok-do_round-2.ensures.rest.idle) c.in-Ok-settle.ensures.serves settled.few settled.in_time)

pub returns-clause-does : goal.returns-clause-does
returns-clause-does g c =
    let bus = g.B.Bus.meaning in
    let is = subst (IsCore bus) c.self.view_is c.self.invariant in
    let first = subst (λ core. DoesRound bus g.R.Record.meaning round.PreStart None [] (over core) c.args.into.now c.args.meter.now c.do_round.new.self c.do_round.new.into c.do_round.new.meter)
    c.self.view_is c.in_ok-do_round.ensures.does in
    let stays = subst (λ core. StaysInRound (over core) c.do_round.new.self) c.self.view_is c.do_round.ensures.stays in
    let keys_are = c.deref.ensures.value ∙ c.in-Ok.ensures ∙ ap (keys_at 0) (c.as_slice.ensures ∙ ap (λ core. core.keys) c.self.view_is) in
    let second = subst (λ keys. DoesRound bus g.R.Record.meaning round.Start None keys c.do_round.new.self c.do_round.new.into c.do_round.new.meter c.do_round-2.new.self c.do_round-2.new.into c.do_round-2.new.meter)
    keys_are c.in_ok-do_round-2.ensures.does in
    subst (λ core. DoesInstant bus g.R.Record.meaning c.args.self.now c.args.into.now c.args.meter.now (going core) c.do_round-2.new.into c.do_round-2.new.meter) (sym c.self-2.view_is)
    (begin_done bus g.met.B.Bus.frames_come c.args.self.now (is.fresh c.requires.is_new) g.R.Record.meaning c.requires.is_new c.args.into.now c.args.meter.now c.do_round.new.self c.do_round.new.into c.do_round.new.meter first stays c.do_round-2.new.self c.do_round-2.new.into c.do_round-2.new.meter second c.do_round-2.ensures.stays c.settle.new.self c.in-Ok-settle.ensures.settles c.settle.ensures.nodes c.settle.ensures.picks c.settle.ensures.until)

pub returns-in_default-clause-stands : goal.returns-in_default-clause-stands
returns-in_default-clause-stands g c =
    stands_begun g.B.Bus.meaning g.met.B.Bus.frames_come c.args.self.now g.met.B.Bus.sound_stays g.met.B.Bus.due_later g.met.B.Bus.due_later_from_nothing (subst (IsCore g.B.Bus.meaning) c.self.view_is c.self.invariant) c.requires.is_new

pub returns-in_err-do_round-clause-stands : goal.returns-in_err-do_round-clause-stands
returns-in_err-do_round-clause-stands g c =
    stands_begun g.B.Bus.meaning g.met.B.Bus.frames_come c.args.self.now g.met.B.Bus.sound_stays g.met.B.Bus.due_later g.met.B.Bus.due_later_from_nothing (subst (IsCore g.B.Bus.meaning) c.self.view_is c.self.invariant) c.requires.is_new

pub returns-in_err-do_round-2-clause-stands : goal.returns-in_err-do_round-2-clause-stands
returns-in_err-do_round-2-clause-stands g c =
    stands_begun g.B.Bus.meaning g.met.B.Bus.frames_come c.args.self.now g.met.B.Bus.sound_stays g.met.B.Bus.due_later g.met.B.Bus.due_later_from_nothing (subst (IsCore g.B.Bus.meaning) c.self.view_is c.self.invariant) c.requires.is_new

pub returns-in_default-settle-clause-stands : goal.returns-in_default-settle-clause-stands
returns-in_default-settle-clause-stands g c =
    stands_begun g.B.Bus.meaning g.met.B.Bus.frames_come c.args.self.now g.met.B.Bus.sound_stays g.met.B.Bus.due_later g.met.B.Bus.due_later_from_nothing (subst (IsCore g.B.Bus.meaning) c.self.view_is c.self.invariant) c.requires.is_new

pub returns-clause-stands : goal.returns-clause-stands
returns-clause-stands g c =
    stands_begun g.B.Bus.meaning g.met.B.Bus.frames_come c.args.self.now g.met.B.Bus.sound_stays g.met.B.Bus.due_later g.met.B.Bus.due_later_from_nothing (subst (IsCore g.B.Bus.meaning) c.self.view_is c.self.invariant) c.requires.is_new
