-- A number that is put in a payload.
use Rattle.std.proofs.Common.{◌≡◌, ◌<◌, ◌+◌, ◌-◌, ℕ, List, ◌∷◌, get_or, length, take, drop, map, Ok, Err, None, sym, ap, ◌∙◌, subst, arith, length-take, refl}
use Rattle.std.specs.Prelude.{ℤ, pos}
use Rattle.std.specs.Int.{cast_signed, cast_unsigned, to_le_bytes, w64, w128}
use Rattle.std.specs.List.{splice, take-map}
use Rattle.std.specs.Result.{result_err}
use Rattle.std.proofs.lemmas.List.{length-map}
use Rattle.std.proofs.lemmas.Result.{err_from_is_err_and}
use Rattle.int_kinds.specs.declared.kinds.Kind.TheVariants.{Qword}
use Rattle.int_kinds.specs.Arithmetic.{residue}
use Rattle.int_kinds.specs.Kind.{IsNumber, wrap}
use Rattle.int_kinds.proofs.Values.{IsNumber-wrap}
use Rattle.bytecode.specs.declared.instr.Instr.TheVariants.{SetBytes}
use Rattle.bytecode.specs.Machine.{Stuck}
use Rattle.message_cells.specs.Message.{bytes_of, size}
use Rattle.bytecode.proofs.MessageCells.{message_there}
use Rattle.stack_vm.specs.Inside.Index.{index_of}
use Rattle.stack_vm.specs.Inside.State.{RunState, machine}
use Rattle.stack_vm.proofs.CellRows.{index_is, no_index}
use Rattle.stack_vm.proofs.MessageRows.{bytes_of_word, message_in, set_bytes_row}
use Rattle.stack_vm.proofs.NumberLemmas.{got, passed}
use Rattle.stack_vm.proofs.StepLemmas.{does, number_at}
use Rattle.stack_vm.proofs.messages.set_bytes.Goals as goal

pub put-requires : goal.put-requires
put-requires c =
    let s : RunState = c.args.state.now in
    let r = c.requires.1 in
    let k = c.args.kind in
    let i : ℤ = get_or s.stack 1 (pos 0) in
    let under = got c.under.result i (record { sfits = c.under.type_inv }) c.under.ensures in
    let raw : ℤ = cast_signed w128 (cast_unsigned w128 c.under.result) in
    let is : index_of i (9 - size k) ≡ Ok c.in_ok-first.first =
    ap (λ (z : ℤ). index_of z (9 - size k)) (sym under) ∙ ap (λ (n : ℕ). index_of raw (9 - n)) (sym c.size.ensures) ∙ sym c.in_ok-first.ensures in
    let below : c.in_ok-first.first < 9 - size k = (index_is i (9 - size k) c.in_ok-first.first (machine s r.active r.effects) (λ _. Stuck) is).below in
    let within = message_in c.requires.0.cells s.cells c.args.at r.cells_held r.named in
    omega (arith, below, within, c.size-2.ensures, length-take c.size-2.result c.cells_of-cells.result)

pub wrap-requires : goal.wrap-requires
wrap-requires c =
    let s : RunState = c.args.state.now in
    let top = got c.top-n.result (get_or s.stack 0 (pos 0)) (record { sfits = c.top-n.type_inv }) c.top-n.ensures in
    subst IsNumber (sym top) (number_at s.stack 0 (let h : 0 < length s.stack = omega (arith, c.requires.1.taken) in h) c.requires.1.numbers)

pub returns-in_err-first : goal.returns-in_err-first
returns-in_err-first c =
    let s : RunState = c.args.state.now in
    let r = c.requires.1 in
    let k = c.args.kind in
    let i : ℤ = get_or s.stack 1 (pos 0) in
    let end = c.in_err-first.field-0.0 in
    let under = got c.under.result i (record { sfits = c.under.type_inv }) c.under.ensures in
    let raw : ℤ = cast_signed w128 (cast_unsigned w128 c.under.result) in
    let is : index_of i (9 - size k) ≡ Err end =
    ap (λ (z : ℤ). index_of z (9 - size k)) (sym under) ∙ ap (λ (n : ℕ). index_of raw (9 - n)) (sym c.size.ensures) ∙ sym c.in_err-first.ensures in
    let there = message_there c.requires.0.cells s.cells c.args.at r.cells_held r.named in
    let p = err_from_is_err_and c.from_residual.result c.from_residual.ensures.1 in
    does (SetBytes k c.args.at) s (result_err c.from_residual.result) s s refl refl
    (λ code closed moment active effects. set_bytes_row code closed moment (machine s active effects) k c.args.at s.stack r.taken there
    ∙ rw (p.1, p.2) (no_index i (9 - size k) (machine s active effects) _ end is)) refl

pub returns : goal.returns
returns c =
    let s : RunState = c.args.state.now in
    let r = c.requires.1 in
    let k = c.args.kind in
    let first : ℕ = c.in_ok-first.first in
    let i : ℤ = get_or s.stack 1 (pos 0) in
    let n : ℤ = get_or s.stack 0 (pos 0) in
    let bytes : List ℕ = bytes_of k n in
    let under = got c.under.result i (record { sfits = c.under.type_inv }) c.under.ensures in
    let raw : ℤ = cast_signed w128 (cast_unsigned w128 c.under.result) in
    let is : index_of i (9 - size k) ≡ Ok first =
    ap (λ (z : ℤ). index_of z (9 - size k)) (sym under) ∙ ap (λ (j : ℕ). index_of raw (9 - j)) (sym c.size.ensures) ∙ sym c.in_ok-first.ensures in
    let there' = message_there c.requires.0.cells s.cells c.args.at r.cells_held r.named in
    let top = got c.top-n.result n (record { sfits = c.top-n.type_inv }) c.top-n.ensures in
    let wrapped = passed c.wrap.result (wrap k n) (c.wrap.ensures ∙ ap (wrap k) top) (IsNumber-wrap k n) in
    let word : List ℕ = to_le_bytes w64 (residue Qword n) in
    let whole : c.cells_of-cells.result ≡ map pos word =
    c.cells_of-cells.ensures ∙ ap (map pos) (c.to_le_bytes.ensures ∙ ap (to_le_bytes w64) (c.residue.ensures ∙ ap (residue Qword) top)) in
    let cells : take c.size-2.result c.cells_of-cells.result ≡ map pos bytes =
    ap (take c.size-2.result) whole ∙ ap (λ (j : ℕ). take j (map pos word)) c.size-2.ensures ∙ take-map pos (size k) word ∙ ap (map pos) (bytes_of_word k n) in
    let from : ℕ = c.args.at + 6 + first in
    let there : ℕ → List ℤ → ℤ → RunState = λ count items z. record s { place = s.place + 1; stack = z ∷ drop 2 s.stack; cells = splice s.cells from (from + count) items } in
    let given : ℤ = cast_signed w128 (cast_unsigned w128 c.wrap.result) in
    does (SetBytes k c.args.at) s None c.replace_two.new.self (there (length bytes) (map pos bytes) (wrap k n)) refl refl
    (λ code closed moment active effects. set_bytes_row code closed moment (machine s active effects) k c.args.at s.stack r.taken there'
    ∙ (index_is i (9 - size k) first (machine s active effects) _ is).does)
    (c.replace_two.ensures ∙ ap (λ (z : RunState). record z { place = z.place + 1; stack = given ∷ drop 2 z.stack }) c.put.ensures
    ∙ ap (λ (items : List ℤ). there (length items) items given) cells ∙ ap (λ (count : ℕ). there count (map pos bytes) given) (length-map bytes pos)
    ∙ ap (there (length bytes) (map pos bytes)) wrapped)
