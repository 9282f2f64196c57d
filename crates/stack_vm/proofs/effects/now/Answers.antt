-- The present moment.
use Rattle.std.proofs.Common.{◌∷◌, ◌/◌, refl}
use Rattle.std.specs.Prelude.{pos}
use Rattle.int_kinds.specs.declared.kinds.Kind.TheVariants.{Dword}
use Rattle.int_kinds.specs.Kind.{wrap}
use Rattle.bytecode.specs.declared.instr.Instr.TheVariants.{Now}
use Rattle.stack_vm.proofs.StepLemmas.{room_to_give}
use Rattle.stack_vm.proofs.effects.now.Goals as goal

pub give-requires-clause-room : goal.give-requires-clause-room
give-requires-clause-room g c =
    let r = c.requires.1 in
    room_to_give c.requires.0 Now c.args.state.now r (wrap Dword (pos (r.moment / 10)) ∷ c.args.state.now.stack) refl
