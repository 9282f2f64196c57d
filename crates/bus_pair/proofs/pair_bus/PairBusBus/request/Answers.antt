-- The channel of the frame takes the request or refuses it, and the pair stays sound.
use Rattle.bus_pair.specs.Inside.PairBus.{state_of}
use Rattle.bus_pair.proofs.Request.{sound-one, sound-two}
use Rattle.bus_pair.proofs.pair_bus.PairBusBus.request.Goals as goal

pub invariant_of-self : goal.invariant_of-self
invariant_of-self c =
    sound-two (state_of c.self.inside) c.request.new.self c.args.node c.args.f.now c.request.result
    c.request.ensures.ok c.request.ensures.err c.self.invariant

pub invariant_of-self-else-can-eq2 : goal.invariant_of-self-else-can-eq2
invariant_of-self-else-can-eq2 c =
    let call = c.request-else-can-eq2 in
    sound-one (state_of c.self.inside) call.new.self c.args.node c.args.f.now call.result call.ensures.ok call.ensures.err c.self.invariant

pub returns-then-can-eq2-clause-sound : goal.returns-then-can-eq2-clause-sound
returns-then-can-eq2-clause-sound c =
    sound-two (state_of c.self.inside) c.request.new.self c.args.node c.args.f.now c.request.result
    c.request.ensures.ok c.request.ensures.err c.self.invariant

pub returns-else-can-eq2-clause-sound : goal.returns-else-can-eq2-clause-sound
returns-else-can-eq2-clause-sound c =
    let call = c.request-else-can-eq2 in
    sound-one (state_of c.self.inside) call.new.self c.args.node c.args.f.now call.result call.ensures.ok call.ensures.err c.self.invariant
