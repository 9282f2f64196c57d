-- A message that is copied to another.
use Rattle.std.proofs.Common.{◌≡◌, ◌+◌, ℕ, List, length, None, ap, ◌∙◌, arith, refl}
use Rattle.std.specs.Prelude.{ℤ}
use Rattle.std.specs.List.{splice}
use Rattle.bytecode.specs.declared.instr.Instr.TheVariants.{Copy}
use Rattle.bytecode.proofs.MessageCells.{message_there}
use Rattle.stack_vm.specs.Inside.State.{machine, RunState}
use Rattle.stack_vm.proofs.MessageRows.{cells_at, copy_row, length-cells_at, message_in}
use Rattle.stack_vm.proofs.StepLemmas.{does}
use Rattle.stack_vm.proofs.messages.copy.Goals as goal

pub message-message-requires : goal.message-message-requires
message-message-requires c = message_in c.requires.0.cells c.args.state.now.cells c.args.from c.requires.1.cells_held c.requires.1.named.1

pub put-requires : goal.put-requires
put-requires c =
    let s : RunState = c.args.state.now in
    let kinds = c.requires.0.cells in
    let n = length-cells_at s.cells c.args.from (message_in kinds s.cells c.args.from c.requires.1.cells_held c.requires.1.named.1) in
    let len : length c.message-message.result ≡ 14 = ap length c.message-message.ensures ∙ n in
    omega (arith, len, message_in kinds s.cells c.args.to c.requires.1.cells_held c.requires.1.named.0)

pub returns : goal.returns
returns c =
    let s : RunState = c.args.state.now in
    let kinds = c.requires.0.cells in
    let held = c.requires.1.cells_held in
    let is_to = c.requires.1.named.0 in
    let is_from = c.requires.1.named.1 in
    let message : List ℤ = cells_at c.args.from s.cells in
    let there : ℕ → List ℤ → RunState = λ n cells. record s { place = s.place + 1; cells = splice s.cells c.args.to (c.args.to + n) cells } in
    let n : length message ≡ 14 = length-cells_at s.cells c.args.from (message_in kinds s.cells c.args.from held is_from) in
    does (Copy c.args.to c.args.from) s None c.go_on.new.self (there 14 message) refl refl
    (λ code closed moment active effects. copy_row code closed moment (machine s active effects) c.args.to c.args.from s.stack (message_there kinds s.cells c.args.to held is_to) (message_there kinds s.cells c.args.from held is_from))
    (c.go_on.ensures ∙ ap (λ (z : RunState). record z { place = z.place + 1 }) c.put.ensures
    ∙ ap (λ (cells : List ℤ). there (length cells) cells) c.message-message.ensures ∙ ap (λ (k : ℕ). there k message) n)
