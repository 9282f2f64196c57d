-- A number that is stored in a cell.
use Rattle.std.proofs.Common.{◌+◌, List, ◌∷◌, get_or, drop, None, ap, ◌∙◌, refl}
use Rattle.std.specs.Prelude.{ℤ, pos, slice_set}
use Rattle.std.specs.Int.{cast_signed, cast_unsigned, w128}
use Rattle.int_kinds.specs.declared.kinds.Kind.{Kind}
use Rattle.int_kinds.specs.declared.kinds.Kind.TheVariants.{Byte}
use Rattle.int_kinds.specs.Kind.{wrap}
use Rattle.int_kinds.proofs.Values.{IsNumber-wrap}
use Rattle.bytecode.specs.declared.instr.Instr.TheVariants.{Store}
use Rattle.stack_vm.specs.Inside.State.{machine, RunState}
use Rattle.stack_vm.proofs.ListLemmas.{item_read}
use Rattle.stack_vm.proofs.CellRows.{cell_there, store_row}
use Rattle.stack_vm.proofs.NumberLemmas.{got, passed}
use Rattle.stack_vm.proofs.StepLemmas.{does_in}
use Rattle.stack_vm.proofs.cells.store.Goals as goal

pub set_cell-requires : goal.set_cell-requires
set_cell-requires c = cell_there c.args.code.now.cells c.args.state.now.cells c.args.cell c.requires.cells_held c.requires.named

pub returns : goal.returns
returns c =
    let s : RunState = c.args.state.now in
    let kinds : List Kind = c.args.code.now.cells in
    let k : Kind = get_or c.as_slice.result.now c.args.cell Byte in
    let there' = cell_there kinds s.cells c.args.cell c.requires.cells_held c.requires.named in
    let top = got c.top.result (get_or s.stack 0 (pos 0)) (record { sfits = c.top.type_inv }) c.top.ensures in
    let v : ℤ = wrap k (get_or s.stack 0 (pos 0)) in
    let n = passed c.wrap-n.result v (c.wrap-n.ensures ∙ ap (wrap k) top) (IsNumber-wrap k (get_or s.stack 0 (pos 0))) in
    let there : ℤ → RunState = λ z. record s { place = s.place + 1; stack = z ∷ drop 1 s.stack; cells = slice_set s.cells c.args.cell z } in
    let raw : ℤ = cast_signed w128 (cast_unsigned w128 c.wrap-n.result) in
    does_in c.args.code.now (Store c.args.cell) s None c.replace.new.self (there v) refl refl
    (λ closed moment active effects. store_row c.args.code.now closed moment (machine s active effects) c.args.cell k s.stack c.requires.taken there' (item_read kinds c.as_slice.ensures refl c.requires.named Byte))
    (c.replace.ensures ∙ ap (λ (z : RunState). record z { place = z.place + 1; stack = raw ∷ drop 1 z.stack }) c.set_cell.ensures ∙ ap there n)
