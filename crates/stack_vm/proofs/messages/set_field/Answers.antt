-- A field that is written by its rule.
use Rattle.std.proofs.Common.{◌+◌, ℕ, ◌∷◌, get_or, drop, None, ap, ◌∙◌, arith, refl}
use Rattle.std.specs.Prelude.{ℤ, pos, slice_set, slice_index_or}
use Rattle.std.specs.Int.{cast_signed, cast_unsigned, w128}
use Rattle.bytecode.specs.declared.instr.Instr.TheVariants.{SetField}
use Rattle.message_cells.specs.Message.{write_rules, written_can}
use Rattle.bytecode.proofs.MessageCells.{message_there}
use Rattle.stack_vm.specs.Inside.State.{machine, RunState}
use Rattle.stack_vm.proofs.MessageRows.{message_in, set_field_row}
use Rattle.stack_vm.proofs.NumberLemmas.{got}
use Rattle.stack_vm.proofs.StepLemmas.{does}
use Rattle.stack_vm.proofs.messages.set_field.Goals as goal

pub set_cell-requires : goal.set_cell-requires
set_cell-requires c =
    let within = message_in c.requires.0.cells c.args.state.now.cells c.args.at c.requires.1.cells_held c.requires.1.named.1 in
    omega (arith, c.from.ensures, c.requires.1.named.0, within)

pub returns : goal.returns
returns c =
    let s : RunState = c.args.state.now in
    let f : ℕ = c.args.field in
    let top = got c.top.result (get_or s.stack 0 (pos 0)) (record { sfits = c.top.type_inv }) c.top.ensures in
    let is = message_there c.requires.0.cells s.cells c.args.at c.requires.1.cells_held c.requires.1.named.1 in
    let v : ℤ = pos (slice_index_or write_rules f written_can (get_or s.stack 0 (pos 0))) in
    let n = got c.from-n.result v (record { sfits = c.from-n.type_inv }) (c.from-n.ensures ∙ ap pos (c.written.ensures ∙ ap (λ (z : ℤ). slice_index_or write_rules f written_can z) top)) in
    let there : ℕ → ℤ → RunState = λ i z. record s { place = s.place + 1; stack = z ∷ drop 1 s.stack; cells = slice_set s.cells (c.args.at + i) z } in
    let raw : ℤ = cast_signed w128 (cast_unsigned w128 c.from-n.result) in
    does (SetField f c.args.at) s None c.replace.new.self (there f v) refl refl
    (λ code closed moment active effects. set_field_row code closed moment (machine s active effects) f c.args.at s.stack c.requires.1.named.0 c.requires.1.taken is)
    (c.replace.ensures ∙ ap (λ (z : RunState). record z { place = z.place + 1; stack = raw ∷ drop 1 z.stack }) c.set_cell.ensures
    ∙ ap (λ (i : ℕ). there i raw) c.from.ensures ∙ ap (there f) n)
