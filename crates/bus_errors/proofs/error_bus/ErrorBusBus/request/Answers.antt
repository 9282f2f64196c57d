-- A request of a node that is not off is one of the plain bus.
use Rattle.std.proofs.Common.{◌≡◌, false, ap, sym, ◌∙◌}
use Rattle.channel_errors.specs.Errors.{is_off, is_off_in}
use Rattle.bus_errors.specs.Inside.ErrorBus.{state_of}
use Rattle.bus_errors.proofs.Paced.{paced-either}
use Rattle.bus_errors.proofs.error_bus.ErrorBusBus.request.Goals as goal

pub invariant_of-self : goal.invariant_of-self
invariant_of-self c =
    let s = state_of c.self.inside in
    let on : is_off s c.args.node ≡ false = ap (λ counts. is_off_in counts c.args.node) (sym c.deref.ensures.value) ∙ sym c.is_off.ensures ∙ c.if-is_off.false in
    paced-either s c.args.node c.args.f.now c.request.new.self c.request.result c.request.ensures.ok c.request.ensures.err on c.self.invariant

pub returns-clause-sound : goal.returns-clause-sound
returns-clause-sound c =
    let s = state_of c.self.inside in
    let on : is_off s c.args.node ≡ false = ap (λ counts. is_off_in counts c.args.node) (sym c.deref.ensures.value) ∙ sym c.is_off.ensures ∙ c.if-is_off.false in
    (paced-either s c.args.node c.args.f.now c.request.new.self c.request.result c.request.ensures.ok c.request.ensures.err on c.self.invariant).sound
