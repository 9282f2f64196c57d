-- The number of a signal.
use Rattle.std.proofs.Common.{◌+◌, List, ◌∷◌, None, ap, ◌∙◌, refl}
use Rattle.std.specs.Prelude.{ℕ, ℤ}
use Rattle.signal_codec.specs.Signal.{signal_value}
use Rattle.bytecode.specs.declared.instr.Instr.TheVariants.{Sig}
use Rattle.message_cells.specs.Message.{payload_of}
use Rattle.bytecode.proofs.MessageCells.{message_there}
use Rattle.stack_vm.specs.Inside.State.{machine, RunState}
use Rattle.stack_vm.proofs.MessageRows.{cells_at, message_in, signal_row}
use Rattle.stack_vm.proofs.NumberLemmas.{got}
use Rattle.stack_vm.proofs.StepLemmas.{does, room_to_give}
use Rattle.stack_vm.proofs.messages.signal.Goals as goal

pub payload-requires : goal.payload-requires
payload-requires c = message_in c.requires.0.cells c.args.state.now.cells c.args.at c.requires.1.cells_held c.requires.1.named.1

pub give-requires-clause-room : goal.give-requires-clause-room
give-requires-clause-room c =
    let s : RunState = c.args.state.now in
    let r = c.requires.1 in
    let is = message_there c.requires.0.cells s.cells c.args.at r.cells_held r.named.1 in
    room_to_give c.requires.0 (Sig c.args.layout c.args.at) s r (signal_value c.args.layout (payload_of (cells_at c.args.at s.cells)) ∷ s.stack)
    (signal_row c.requires.0 r.closed r.moment (machine s r.active r.effects) c.args.layout c.args.at s.stack is)

pub returns : goal.returns
returns c =
    let s : RunState = c.args.state.now in
    let l = c.args.layout in
    let is = message_there c.requires.0.cells s.cells c.args.at c.requires.1.cells_held c.requires.1.named.1 in
    let there : ℤ → RunState = λ z. record s { place = s.place + 1; stack = z ∷ s.stack } in
    let v : ℤ = signal_value l (payload_of (cells_at c.args.at s.cells)) in
    let n = got c.get-n.result v (record { sfits = c.get-n.type_inv }) (c.get-n.ensures.value ∙ ap (λ (payload : List ℕ). signal_value l payload) c.payload.ensures) in
    does (Sig l c.args.at) s None c.give.new.self (there v) refl refl
    (λ code closed moment active effects. signal_row code closed moment (machine s active effects) l c.args.at s.stack is)
    (c.give.ensures ∙ ap there n)
