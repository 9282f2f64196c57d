-- The payload of a message, a byte for each cell.
use Rattle.std.proofs.Common.{◌≡◌, ◌+◌, ◌-◌, ℕ, List, length, map, take, drop, sym, ap, ◌∙◌, arith, length-take, length-drop}
use Rattle.std.specs.Prelude.{ℤ}
use Rattle.std.proofs.Math.Seq.{take-length}
use Rattle.int_kinds.specs.declared.kinds.Kind.TheVariants.{Byte}
use Rattle.int_kinds.specs.Arithmetic.{residue}
use Rattle.stack_vm.proofs.MessageRows.{payload_at}
use Rattle.stack_vm.proofs.messages.payload.Goals as goal

pub returns : goal.returns
returns c =
    let first : ℕ = c.args.at + 6 in
    let items : List ℤ = take (first + 8 - first) (drop first c.cells.result.now) in
    let eight : first + 8 - first ≡ 8 = omega arith in
    let n : length items ≡ 8 = omega (arith, length-take (first + 8 - first) (drop first c.cells.result.now), length-drop first c.cells.result.now, ap length c.cells.ensures, c.requires, eight) in
    let last : c.loop-i.i ≡ 8 = omega (arith, n, c.loop-i-test.false, c.loop-i.auto.i-end) in
    sym (take-length c.loop-i.payload) ∙ ap (λ (k : ℕ). take k c.loop-i.payload) (c.loop-i.invariant.all ∙ sym last) ∙ c.loop-i.invariant.same
    ∙ ap (λ (k : ℕ). map (residue Byte) (take k items)) (last ∙ sym n) ∙ ap (map (residue Byte)) (take-length items)
    ∙ ap (λ (k : ℕ). map (residue Byte) (take k (drop first c.cells.result.now))) eight
    ∙ ap (λ (cells : List ℤ). map (residue Byte) (take 8 (drop first cells))) c.cells.ensures ∙ payload_at c.args.state.now.cells c.args.at
