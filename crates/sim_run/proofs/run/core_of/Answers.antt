-- A new bus.
use Rattle.std.proofs.Common.{◌≡◌, None, subst, sym}
use Rattle.can_bus.specs.Bus.{BusState, Carries, next_moment}
use Rattle.can_frame.specs.Frame.{FrameFields, IsFrame}
use Rattle.sim_run.proofs.LoadedLemmas.{carries_none, nothing_due}
use Rattle.sim_run.proofs.run.core_of.Goals as goal

pub make-requires-clause-new_bus : goal.make-requires-clause-new_bus
make-requires-clause-new_bus c = subst (λ (b : BusState). next_moment b ≡ None) (sym c.make-bus.ensures) (nothing_due c.args.scenario.bit)

pub make-requires-clause-frames : goal.make-requires-clause-frames
make-requires-clause-frames c =
    subst (λ (b : BusState). (frame : FrameFields) → Carries b frame → IsFrame frame) (sym c.make-bus.ensures) (carries_none c.args.scenario.bit)
