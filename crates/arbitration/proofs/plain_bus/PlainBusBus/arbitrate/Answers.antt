-- The winner leaves the list and begins.
use Rattle.std.proofs.Common.{◌≡◌, ℕ, List, refl, ap, sym, subst, ◌∙◌, length}
use Rattle.can_bus.specs.declared.waiting.Waiting.{Waiting}
use Rattle.can_bus.specs.Bus.{is_free, after_arbitration}
use Rattle.can_bus.specs.Ranks.{IsBelowNext}
use Rattle.can_bus.proofs.Requests.{len-requests_of}
use Rattle.can_bus.proofs.Arbitration.{after_arbitration-nothing}
use Rattle.arbitration.specs.Inside.PlainBus.{state_of}
use Rattle.arbitration.specs.Inside.Places.{IsWinnerPlace}
use Rattle.arbitration.proofs.ArbitrationLemmas.{begins, All-remove, in_order-left}
use Rattle.arbitration.proofs.plain_bus.PlainBusBus.arbitrate.Goals as goal

pub returns-in_default-clause-state : goal.returns-in_default-clause-state
returns-in_default-clause-state c =
    let rs = c.self.inside.waiting.items in
    let none : length rs ≡ 0 = ap length (sym c.deref.ensures.value ∙ c.in_default.ensures.none) in
    sym c.self.view_is
    ∙ sym (after_arbitration-nothing (state_of c.self.inside) c.args.now (len-requests_of rs c.self.invariant.in_order ∙ none))
    ∙ ap (λ s. after_arbitration s c.args.now) c.self.view_is

first : (rs seen : List Waiting) (place : ℕ) → seen ≡ rs → IsWinnerPlace seen place → IsWinnerPlace rs place
first rs seen place e h = let P : List Waiting → Type 0 = λ ws. IsWinnerPlace ws place in subst P e h

pub invariant_of-self : goal.invariant_of-self
invariant_of-self c =
    let rs = c.self.inside.waiting.items in
    let place = c.in-Some.place in
    let stands = first rs c.deref.result.now place c.deref.ensures.value c.in-Some.ensures.some in
    record {
      takes_time = c.self.invariant.takes_time;
      in_order = in_order-left rs _ place c.remove-request.result c.remove-request.ensures.items c.self.invariant.in_order stands.within c.remove-request.ensures.value;
      below_next = All-remove (IsBelowNext (state_of c.self.inside)) rs _ place c.remove-request.ensures.items c.self.invariant.below_next;
    }

pub returns-clause-state : goal.returns-clause-state
returns-clause-state c =
    let rs = c.self.inside.waiting.items in
    let place = c.in-Some.place in
    let stands = first rs c.deref.result.now place c.deref.ensures.value c.in-Some.ensures.some in
    let s = state_of c.self.inside in
    begins s rs _ c.args.now place c.remove-request.result c.time_on_wire.result c.intermission.result refl
    c.self.invariant.in_order stands c.remove-request.ensures.value c.remove-request.ensures.items
    (ap (λ t. is_free t c.args.now) c.self.view_is ∙ sym c.is_free.ensures ∙ c.if-not-is_free.false)
    c.time_on_wire.ensures.value c.intermission.ensures
    ∙ ap (λ t. after_arbitration t c.args.now) c.self.view_is
