-- All neighbours differ, and so do all labels.
use Rattle.std.proofs.Common.{arith, refl}
use Rattle.sound_check.proofs.Neighbours.{differ_in_order}
use Rattle.sound_check.proofs.statement.neighbours_differ.Goals as goal

pub returns : goal.returns
returns c = (
  λ _. differ_in_order c.args.labels.now c.requires (λ k d within. c.loop-i.invariant k d (omega (arith, within, c.loop-i-test.false))),
  λ _. refl,
)
