-- A number that is put in a signal.
use Rattle.std.proofs.Common.{◌≡◌, ◌+◌, ℕ, List, ◌∷◌, get_or, drop, length, map, None, ap, ◌∙◌, arith, refl}
use Rattle.std.specs.Prelude.{ℤ, pos}
use Rattle.std.specs.Int.{cast_signed, cast_unsigned, w128}
use Rattle.std.specs.List.{splice}
use Rattle.std.proofs.lemmas.List.{length-map}
use Rattle.signal_codec.specs.Signal.{payload_with, signal_value}
use Rattle.bytecode.specs.declared.instr.Instr.TheVariants.{SetSig}
use Rattle.message_cells.specs.Message.{payload_of}
use Rattle.bytecode.proofs.MessageCells.{message_there}
use Rattle.stack_vm.specs.Inside.State.{machine, RunState}
use Rattle.stack_vm.proofs.MessageRows.{cells_at, message_in, set_signal_row}
use Rattle.stack_vm.proofs.NumberLemmas.{got}
use Rattle.stack_vm.proofs.StepLemmas.{does}
use Rattle.stack_vm.proofs.messages.set_signal.Goals as goal

pub payload-bytes-requires : goal.payload-bytes-requires
payload-bytes-requires c = message_in c.requires.0.cells c.args.state.now.cells c.args.at c.requires.1.cells_held c.requires.1.named.1

pub put-requires-2 : goal.put-requires-2
put-requires-2 c =
    let within = message_in c.requires.0.cells c.args.state.now.cells c.args.at c.requires.1.cells_held c.requires.1.named.1 in
    let n : length c.cells_of.result ≡ 8 = ap length c.cells_of.ensures ∙ length-map c.put.new.payload pos ∙ c.put.array_long in
    omega (arith, n, within)

pub returns : goal.returns
returns c =
    let s : RunState = c.args.state.now in
    let l = c.args.layout in
    let bytes : List ℕ = c.put.new.payload in
    let top = got c.top.result (get_or s.stack 0 (pos 0)) (record { sfits = c.top.type_inv }) c.top.ensures in
    let is = message_there c.requires.0.cells s.cells c.args.at c.requires.1.cells_held c.requires.1.named.1 in
    let old : List ℕ = payload_of (cells_at c.args.at s.cells) in
    let after : bytes ≡ payload_with l old (get_or s.stack 0 (pos 0)) =
    c.put.ensures.payload ∙ ap (λ (payload : List ℕ). payload_with l payload (cast_signed w128 (cast_unsigned w128 c.top.result))) c.payload-bytes.ensures ∙ ap (λ (z : ℤ). payload_with l old z) top in
    let v : ℤ = signal_value l bytes in
    let n = got c.get-n.result v (record { sfits = c.get-n.type_inv }) c.get-n.ensures.value in
    let first : ℕ = c.args.at + 6 in
    let there : ℕ → List ℤ → ℤ → RunState = λ count cells z. record s { place = s.place + 1; stack = z ∷ drop 1 s.stack; cells = splice s.cells first (first + count) cells } in
    let raw : ℤ = cast_signed w128 (cast_unsigned w128 c.get-n.result) in
    does (SetSig l c.args.at) s None c.replace.new.self (there (length bytes) (map pos bytes) v) refl refl
    (λ code closed moment active effects. set_signal_row code closed moment (machine s active effects) l c.args.at s.stack bytes c.requires.1.taken is after)
    (c.replace.ensures ∙ ap (λ (z : RunState). record z { place = z.place + 1; stack = raw ∷ drop 1 z.stack }) c.put-2.ensures
    ∙ ap (λ (cells : List ℤ). there (length cells) cells raw) c.cells_of.ensures ∙ ap (λ (count : ℕ). there count (map pos bytes) raw) (length-map bytes pos)
    ∙ ap (there (length bytes) (map pos bytes)) n)
