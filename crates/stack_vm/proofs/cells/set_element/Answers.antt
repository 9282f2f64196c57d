-- A number that is stored in an element of an array.
use Rattle.std.proofs.Common.{◌≡◌, ◌<◌, ◌+◌, ℕ, List, ◌∷◌, length, get_or, drop, Ok, None, ap, ◌∙◌, sym, arith, refl}
use Rattle.std.specs.Prelude.{ℤ, pos, slice_set}
use Rattle.std.specs.Int.{cast_signed, cast_unsigned, w128}
use Rattle.int_kinds.specs.declared.kinds.Kind.{Kind}
use Rattle.int_kinds.specs.declared.kinds.Kind.TheVariants.{Byte}
use Rattle.int_kinds.specs.Kind.{wrap}
use Rattle.int_kinds.proofs.Values.{IsNumber-wrap}
use Rattle.bytecode.specs.declared.instr.Instr.TheVariants.{SetElem}
use Rattle.bytecode.specs.Machine.{Stuck}
use Rattle.stack_vm.specs.Inside.Index.{index_of}
use Rattle.stack_vm.specs.Inside.State.{RunState, machine}
use Rattle.stack_vm.proofs.CellRows.{cell_there, index_is, set_element_row}
use Rattle.stack_vm.proofs.ListLemmas.{item_read}
use Rattle.stack_vm.proofs.NumberLemmas.{got, passed}
use Rattle.stack_vm.proofs.StepLemmas.{does_in}
use Rattle.stack_vm.proofs.cells.set_element.Goals as goal

pub set_cell-requires : goal.set_cell-requires
set_cell-requires c =
    let s : RunState = c.args.state.now in
    let r = c.requires in
    let under = got c.under.result (get_or s.stack 1 (pos 0)) (record { sfits = c.under.type_inv }) c.under.ensures in
    let is : index_of (get_or s.stack 1 (pos 0)) c.args.len ≡ Ok c.in_ok-cell.field-0 = ap (λ (z : ℤ). index_of z c.args.len) (sym under) ∙ sym c.in_ok-cell.ensures in
    let i = index_is (get_or s.stack 1 (pos 0)) c.args.len c.in_ok-cell.field-0 (machine s r.active r.effects) (λ _. Stuck) is in
    cell_there c.args.code.now.cells s.cells (c.args.base + c.in_ok-cell.field-0) r.cells_held (omega (arith, i.below, r.named.there))

pub returns : goal.returns
returns c =
    let s : RunState = c.args.state.now in
    let r = c.requires in
    let kinds : List Kind = c.args.code.now.cells in
    let at : ℕ = c.in_ok-cell.field-0 in
    let cell : ℕ = c.args.base + at in
    let k : Kind = get_or c.as_slice.result.now cell Byte in
    let under = got c.under.result (get_or s.stack 1 (pos 0)) (record { sfits = c.under.type_inv }) c.under.ensures in
    let is : index_of (get_or s.stack 1 (pos 0)) c.args.len ≡ Ok at = ap (λ (z : ℤ). index_of z c.args.len) (sym under) ∙ sym c.in_ok-cell.ensures in
    let i = index_is (get_or s.stack 1 (pos 0)) c.args.len at (machine s r.active r.effects) (λ _. Stuck) is in
    let within : cell < length kinds = omega (arith, i.below, r.named.there) in
    let there' = cell_there kinds s.cells cell r.cells_held within in
    let top = got c.top.result (get_or s.stack 0 (pos 0)) (record { sfits = c.top.type_inv }) c.top.ensures in
    let v : ℤ = wrap k (get_or s.stack 0 (pos 0)) in
    let n = passed c.wrap-n.result v (c.wrap-n.ensures ∙ ap (wrap k) top) (IsNumber-wrap k (get_or s.stack 0 (pos 0))) in
    let there : ℤ → RunState = λ z. record s { place = s.place + 1; stack = z ∷ drop 2 s.stack; cells = slice_set s.cells cell z } in
    let raw : ℤ = cast_signed w128 (cast_unsigned w128 c.wrap-n.result) in
    does_in c.args.code.now (SetElem c.args.base c.args.len) s None c.replace_two.new.self (there v) refl refl
    (λ closed moment active effects.
    set_element_row c.args.code.now closed moment (machine s active effects) c.args.base c.args.len at k s.stack r.taken is there'
    (item_read kinds c.as_slice.ensures refl within Byte))
    (c.replace_two.ensures ∙ ap (λ (z : RunState). record z { place = z.place + 1; stack = raw ∷ drop 2 z.stack }) c.set_cell.ensures ∙ ap there n)
