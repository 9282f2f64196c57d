-- A step of the counter over four bits.
use Rattle.std.proofs.Common.{ℕ, ◌<◌, length, sym, arith}
use Rattle.can_frame.specs.Frame.{field_bits}
use Rattle.can_frame.proofs.BitLists.{length-field_bits}
use Rattle.frame_bits.proofs.NibbleSteps.{step_behind-is, CountsStuffing-step}
use Rattle.frame_bits.proofs.stuffing.StuffCounter.push_nibble.Goals as goal

few : (nibble : ℕ) → length (field_bits 4 nibble) < 16
few nibble = omega (arith, length-field_bits 4 nibble)

pub overflow_add-self-2 : goal.overflow_add-self-2
overflow_add-self-2 c =
    let n = c.args.nibble in
    let steps = step_behind-is c.args.self.now.row _ (field_bits 4 n) c.args.self.now.no_run_waits (few n) c.nibble_step-step.ensures in
    omega (arith, steps.few, length-field_bits 4 n, c.from.ensures, c.requires.room)

pub invariant_of-self : goal.invariant_of-self
invariant_of-self c =
    let n = c.args.nibble in
    let steps = step_behind-is c.args.self.now.row _ (field_bits 4 n) c.args.self.now.no_run_waits (few n) c.nibble_step-step.ensures in
    record { no_run_waits = omega (arith, steps.short) }

pub returns-clause-counts : goal.returns-clause-counts
returns-clause-counts c = λ bits now.
    let n = c.args.nibble in
    let steps = step_behind-is c.args.self.now.row _ (field_bits 4 n) c.args.self.now.no_run_waits (few n) c.nibble_step-step.ensures in
    CountsStuffing-step _ _ _ 4 _ bits (field_bits 4 n) steps (sym (length-field_bits 4 n)) c.from.ensures now

pub returns-clause-at_most : goal.returns-clause-at_most
returns-clause-at_most c =
    let n = c.args.nibble in
    let steps = step_behind-is c.args.self.now.row _ (field_bits 4 n) c.args.self.now.no_run_waits (few n) c.nibble_step-step.ensures in
    omega (arith, steps.few, length-field_bits 4 n, c.from.ensures)
