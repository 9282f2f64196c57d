-- The winner begins under the next number.
use Rattle.std.proofs.Common.{◌≡◌, ◌+◌, true, ap, sym, subst, ◌∙◌, arith}
use Rattle.std.specs.Prelude.{is_some}
use Rattle.can_bus.specs.Bus as channel
use Rattle.channel_errors.specs.Errors.{is_planned}
use Rattle.bus_heap.specs.Retransmission.{after_longer_arbitration}
use Rattle.bus_errors.specs.Inside.ErrorBus.{state_of, IsPaced}
use Rattle.bus_errors.proofs.Calls.{bits_more, some_of, after_arbitration-begins}
use Rattle.bus_errors.proofs.Paced.{free_at_begin, paced-arbitration}
use Rattle.bus_errors.proofs.error_bus.ErrorBusBus.arbitrate.Goals as goal
use Rattle.bus_errors.proofs.error_bus.ErrorBusBus.arbitrate.Goals.{then-has, else-has}

pub invariant_of-self : goal.invariant_of-self
invariant_of-self c =
    let s = state_of c.self.inside in
    let now = c.args.now in
    let number = c.saturating_add-number.result in
    let some : is_some (channel.winner_at s.plain now) ≡ true = sym c.arbitrate_longer.ensures.begins ∙ c.if-arbitrate_longer.true in
    let won = some_of (channel.winner_at s.plain now) some in
    let idle = free_at_begin s.plain now won.0 won.1 in
    let paced = c.self.invariant.begun_by_free in
    let next : number ≡ s.begun + 1 = omega arith in
    let bits : c.if-has.bits ≡ bits_more c.has.result =
    elim c.if-has.branch [
      | then-has w ↦ w.bits-is ∙ sym (ap bits_more w.if-has.true)
      | else-has w ↦ w.bits-is ∙ sym (ap bits_more w.if-has.false)
    ] in
    let longer : c.arbitrate_longer.new.self ≡ after_longer_arbitration s.plain now (bits_more (is_planned s.planned (s.begun + 1))) =
    c.arbitrate_longer.ensures.state
    ∙ ap (after_longer_arbitration s.plain now) (bits ∙ ap bits_more (c.has.ensures ∙ ap (is_planned s.planned) next)) in
    subst IsPaced (sym (after_arbitration-begins s now number c.arbitrate_longer.new.self longer some next))
    (paced-arbitration s now c.self.invariant)

pub returns-then-arbitrate_longer-clause-sound : goal.returns-then-arbitrate_longer-clause-sound
returns-then-arbitrate_longer-clause-sound c = (invariant_of-self c).sound
