-- Cells of zeros, and then the initial values in order.
use Rattle.std.proofs.Common.{◌≡◌, ◌<◌, ◌+◌, ℕ, List, [], length, replicate, get_or, drop, ap, sym, ◌∙◌, subst, arith}
use Rattle.std.specs.Prelude.{ℤ, pos, slice_set}
use Rattle.bytecode.specs.declared.code.Code.{Code}
use Rattle.bytecode.specs.Runs.{HoldKinds}
use Rattle.bytecode.specs.Verified.{IsVerified}
use Rattle.stack_vm.specs.Cases.{IsIndexOf}
use Rattle.stack_vm.specs.Memory.{with_starts}
use Rattle.stack_vm.specs.Inside.State.{RunState}
use Rattle.stack_vm.specs.Room.{numbers_room}
use Rattle.stack_vm.proofs.MemoryLemmas.{HoldKinds-zeros, PutsIn, event_cells_held, puts_in}
use Rattle.stack_vm.proofs.RoomLemmas.{room_enough}
use Rattle.stack_vm.proofs.memory.Memory.make.Goals as goal

pub loop-start-init : goal.loop-start-init
loop-start-init c =
    let code = c.args.code.now in
    let made : c.in_ok-state.state ≡ record { place = 0; stack = []; calls = []; cells = replicate c.len-cells.result (pos 0); turns = 0; numbers_room = c.numbers_room-numbers.result; calls_room = c.len-functions.result } = c.in_ok-state.ensures in
    let len : length c.code-code.result.now.cells ≡ length code.cells = ap (λ (z : Code). length z.cells) c.code-code.ensures.same in
    let zeros : c.in_ok-state.state.cells ≡ replicate (length code.cells) (pos 0) = ap (λ (z : RunState). z.cells) made ∙ ap (λ (n : ℕ). replicate n (pos 0)) (c.len-cells.ensures ∙ len) in
    record {
      starts = ap (λ (cells : List ℤ). with_starts cells code.starts) zeros;
      held = subst (λ (cells : List ℤ). HoldKinds code.cells cells) (sym zeros) (HoldKinds-zeros code.cells);
      numbers = ap (λ (z : RunState). z.numbers_room) made ∙ c.numbers_room-numbers.ensures ∙ ap numbers_room c.code-code.ensures.same;
      calls = ap (λ (z : RunState). z.calls_room) made ∙ c.len-functions.ensures ∙ ap (λ (z : Code). length z.functions) c.code-code.ensures.same;
    }

pub set_cell-requires : goal.set_cell-requires
set_cell-requires c =
    let i = c.loop-start.start-index in
    let code = c.code-code.result.now in
    let e = c.as_slice-start-items.ensures in
    let v : IsVerified code = c.code-code.ensures.verified in
    let k : HoldKinds code.cells c.loop-start.state.cells = subst (λ (z : Code). HoldKinds z.cells c.loop-start.state.cells) (sym c.code-code.ensures.same) c.loop-start.invariant.held in
    let h : i < length code.starts = omega (arith, c.loop-start-test.true, ap length e) in
    let p = puts_in code v c.loop-start.state.cells k i h in
    subst (λ (xs : List (ℕ × ℤ)). (get_or xs i (0, pos 0)).0 < length c.loop-start.state.cells) (sym e) p.is_cell

pub loop-start-preserved : goal.loop-start-preserved
loop-start-preserved c =
    let i = c.loop-start.start-index in
    let code = c.code-code.result.now in
    let e = c.as_slice-start-items.ensures in
    let v : IsVerified code = c.code-code.ensures.verified in
    let k : HoldKinds code.cells c.loop-start.state.cells = subst (λ (z : Code). HoldKinds z.cells c.loop-start.state.cells) (sym c.code-code.ensures.same) c.loop-start.invariant.held in
    let h : i < length code.starts = omega (arith, c.loop-start-test.true, ap length e) in
    let q = puts_in code v c.loop-start.state.cells k i h in
    let q' : PutsIn code.cells c.loop-start.state.cells code.starts i (get_or c.as_slice-start-items.result.now i (0, pos 0)) =
    subst (λ (xs : List (ℕ × ℤ)). PutsIn code.cells c.loop-start.state.cells code.starts i (get_or xs i (0, pos 0))) (sym e) q in
    let p : PutsIn c.args.code.now.cells c.loop-start.state.cells c.args.code.now.starts i (get_or c.as_slice-start-items.result.now i (0, pos 0)) =
    subst (λ (z : Code). PutsIn z.cells c.loop-start.state.cells z.starts i (get_or c.as_slice-start-items.result.now i (0, pos 0))) c.code-code.ensures.same q' in
    let s = c.set_cell.ensures in
    let start = get_or c.as_slice-start-items.result.now i (0, pos 0) in
    let cells : c.set_cell.new.self.cells ≡ slice_set c.loop-start.state.cells start.0 start.1 =
    ap (λ (z : RunState). z.cells) s ∙ ap (λ (n : ℤ). slice_set c.loop-start.state.cells start.0 n) p.reads in
    record {
      starts = ap (λ (cells : List ℤ). with_starts cells (drop (i + 1) c.args.code.now.starts)) cells ∙ p.rest ∙ c.loop-start.invariant.starts;
      held = subst (λ (cells : List ℤ). HoldKinds c.args.code.now.cells cells) (sym cells) p.held;
      numbers = ap (λ (z : RunState). z.numbers_room) s ∙ c.loop-start.invariant.numbers;
      calls = ap (λ (z : RunState). z.calls_room) s ∙ c.loop-start.invariant.calls;
    }

pub returns-clause-of_code : goal.returns-clause-of_code
returns-clause-of_code c =
    let code = c.args.code.now in
    let v : IsVerified code = subst IsVerified c.code-code.ensures.same c.code-code.ensures.verified in
    let k = c.loop-start.invariant in
    record {
      cells_held = k.held;
      room = λ handler start reached closed moment is comes.
          let r = room_enough code v handler start reached closed moment is comes in
          record { numbers = omega (arith, r.numbers, k.numbers); calls = omega (arith, r.calls, k.calls) };
      indexed = subst (λ (z : Code). IsIndexOf z c.in_ok-cases.cases) c.code-code.ensures.same c.in_ok-cases.ensures;
    }

pub invariant_of-result : goal.invariant_of-result
invariant_of-result c =
    let code = c.args.code.now in
    let v : IsVerified code = subst IsVerified c.code-code.ensures.same c.code-code.ensures.verified in
    event_cells_held code v c.loop-start.state.cells c.loop-start.invariant.held
