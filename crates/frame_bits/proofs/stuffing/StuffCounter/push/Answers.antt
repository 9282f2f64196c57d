-- A step of the counter over one bit.
use Rattle.std.proofs.Common.{[], ◌∷◌, refl, arith}
use Rattle.frame_bits.proofs.NibbleSteps.{step_behind-is, CountsStuffing-step}
use Rattle.frame_bits.proofs.stuffing.StuffCounter.push.Goals as goal

pub overflow_add-self-2 : goal.overflow_add-self-2
overflow_add-self-2 c =
    let steps = step_behind-is c.args.self.now.row _ (c.args.bit ∷ []) c.args.self.now.no_run_waits (omega arith) c.bit_step-step.ensures in
    omega (arith, steps.few, c.from.ensures, c.requires)

pub invariant_of-self : goal.invariant_of-self
invariant_of-self c =
    let steps = step_behind-is c.args.self.now.row _ (c.args.bit ∷ []) c.args.self.now.no_run_waits (omega arith) c.bit_step-step.ensures in
    record { no_run_waits = omega (arith, steps.short) }

pub returns-clause-counts : goal.returns-clause-counts
returns-clause-counts c = λ bits now.
    let steps = step_behind-is c.args.self.now.row _ (c.args.bit ∷ []) c.args.self.now.no_run_waits (omega arith) c.bit_step-step.ensures in
    CountsStuffing-step _ _ _ 1 _ bits (c.args.bit ∷ []) steps refl c.from.ensures now

pub returns-clause-at_most_two : goal.returns-clause-at_most_two
returns-clause-at_most_two c =
    let steps = step_behind-is c.args.self.now.row _ (c.args.bit ∷ []) c.args.self.now.no_run_waits (omega arith) c.bit_step-step.ensures in
    omega (arith, steps.few, c.from.ensures)
