-- Room for one more number.
use Rattle.std.proofs.Common.{refl, ◌∷◌}
use Rattle.stack_vm.proofs.StepLemmas.{room_to_give}
use Rattle.stack_vm.proofs.operands.push.Goals as goal

pub give-requires-clause-room : goal.give-requires-clause-room
give-requires-clause-room c = room_to_give c.requires.0 _ c.args.state.now c.requires.1 (c.args.n ∷ c.args.state.now.stack) refl
