-- The number at a byte of a payload.
use Rattle.std.proofs.Common.{◌≡◌, ◌+◌, ◌-◌, ℕ, List, ◌∷◌, get_or, drop, Ok, Err, None, sym, ap, ◌∙◌, refl}
use Rattle.std.specs.Prelude.{ℤ, pos}
use Rattle.std.specs.Int.{cast_signed, cast_unsigned, w128}
use Rattle.std.specs.Result.{result_err}
use Rattle.std.proofs.lemmas.Result.{err_from_is_err_and}
use Rattle.bytecode.specs.declared.instr.Instr.TheVariants.{Bytes}
use Rattle.message_cells.specs.Message.{number_at, payload_of, size}
use Rattle.bytecode.proofs.MessageCells.{message_there}
use Rattle.stack_vm.specs.Inside.Index.{index_of}
use Rattle.stack_vm.specs.Inside.State.{RunState, machine}
use Rattle.stack_vm.proofs.CellRows.{index_is, no_index}
use Rattle.stack_vm.proofs.MessageRows.{bytes_row, cells_at, message_in}
use Rattle.stack_vm.proofs.NumberLemmas.{got}
use Rattle.stack_vm.proofs.StepLemmas.{does}
use Rattle.stack_vm.proofs.messages.bytes.Goals as goal

pub payload-requires : goal.payload-requires
payload-requires c = message_in c.requires.0.cells c.args.state.now.cells c.args.at c.requires.1.cells_held c.requires.1.named

pub returns-in_err-first : goal.returns-in_err-first
returns-in_err-first c =
    let s : RunState = c.args.state.now in
    let r = c.requires.1 in
    let k = c.args.kind in
    let i : ℤ = get_or s.stack 0 (pos 0) in
    let end = c.in_err-first.field-0.0 in
    let top = got c.top.result i (record { sfits = c.top.type_inv }) c.top.ensures in
    let raw : ℤ = cast_signed w128 (cast_unsigned w128 c.top.result) in
    let is : index_of i (9 - size k) ≡ Err end =
    ap (λ (z : ℤ). index_of z (9 - size k)) (sym top) ∙ ap (λ (n : ℕ). index_of raw (9 - n)) (sym c.size.ensures) ∙ sym c.in_err-first.ensures in
    let there = message_there c.requires.0.cells s.cells c.args.at r.cells_held r.named in
    let p = err_from_is_err_and c.from_residual.result c.from_residual.ensures.1 in
    does (Bytes k c.args.at) s (result_err c.from_residual.result) s s refl refl
    (λ code closed moment active effects. bytes_row code closed moment (machine s active effects) k c.args.at s.stack r.taken there
    ∙ rw (p.1, p.2) (no_index i (9 - size k) (machine s active effects) _ end is)) refl

pub returns : goal.returns
returns c =
    let s : RunState = c.args.state.now in
    let r = c.requires.1 in
    let k = c.args.kind in
    let i : ℤ = get_or s.stack 0 (pos 0) in
    let first : ℕ = c.in_ok-first.first in
    let top = got c.top.result i (record { sfits = c.top.type_inv }) c.top.ensures in
    let raw : ℤ = cast_signed w128 (cast_unsigned w128 c.top.result) in
    let is : index_of i (9 - size k) ≡ Ok first =
    ap (λ (z : ℤ). index_of z (9 - size k)) (sym top) ∙ ap (λ (n : ℕ). index_of raw (9 - n)) (sym c.size.ensures) ∙ sym c.in_ok-first.ensures in
    let there' = message_there c.requires.0.cells s.cells c.args.at r.cells_held r.named in
    let v : ℤ = number_at k first (payload_of (cells_at c.args.at s.cells)) in
    let n = got c.number_at-n.result v (record { sfits = c.number_at-n.type_inv }) (c.number_at-n.ensures ∙ ap (λ (payload : List ℕ). number_at k first payload) c.payload.ensures) in
    let there : ℤ → RunState = λ z. record s { place = s.place + 1; stack = z ∷ drop 1 s.stack } in
    does (Bytes k c.args.at) s None c.replace.new.self (there v) refl refl
    (λ code closed moment active effects. bytes_row code closed moment (machine s active effects) k c.args.at s.stack r.taken there'
    ∙ (index_is i (9 - size k) first (machine s active effects) _ is).does)
    (c.replace.ensures ∙ ap there n)
