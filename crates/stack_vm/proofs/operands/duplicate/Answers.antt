-- The top once more.
use Rattle.std.proofs.Common.{◌∷◌, get_or, drop, arith, length-drop}
use Rattle.std.specs.Prelude.{pos}
use Rattle.bytecode.specs.declared.instr.Instr.TheVariants.{Dup}
use Rattle.stack_vm.specs.Inside.State.{RunState}
use Rattle.stack_vm.proofs.StepLemmas.{one_taken, room_to_give}
use Rattle.stack_vm.proofs.operands.duplicate.Goals as goal

pub give-requires-clause-room : goal.give-requires-clause-room
give-requires-clause-room c =
    let s : RunState = c.args.state.now in
    let r = c.requires.1 in
    let n = get_or s.stack 0 (pos 0) in
    let f = room_to_give c.requires.0 Dup s r (n ∷ n ∷ drop 1 s.stack) (one_taken s.stack r.taken _) in
    omega (arith, f, r.taken, length-drop 1 s.stack)
