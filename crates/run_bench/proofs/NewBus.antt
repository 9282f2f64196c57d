-- A bus on which nothing was requested.
use Rattle.std.proofs.Common.{◌≡◌, ℕ, cond, None, Some, ap, subst, ◌∙◌}
use Rattle.std.specs.Prelude.{◌==◌}
use Rattle.std.specs.FinMap.{len-empty}
use Rattle.can_frame.specs.Frame.{FrameFields, IsFrame}
use Rattle.can_bus.specs.Waiting.{name_cmp}
use Rattle.can_bus.specs.Bus.{BusState, Carries, new_bus, next_moment}
use Rattle.can_bus.proofs.FramesCome.{new_bus-carries_none}

-- nothing is due on a new bus
pub nothing_due : (bus : BusState) (bit : ℕ) → bus ≡ new_bus bit → next_moment bus ≡ None
nothing_due bus bit new =
    ap (λ (b : BusState). next_moment b) new ∙ ap (λ n. cond (n == 0) None (Some 0)) (len-empty name_cmp FrameFields)

-- no frame is on a new bus, so each one is real
pub frames_are_real : (bus : BusState) (bit : ℕ) → bus ≡ new_bus bit → (frame : FrameFields) → Carries bus frame → IsFrame frame
frames_are_real bus bit new frame carried = absurd (new_bus-carries_none bit frame (subst (λ (b : BusState). Carries b frame) new carried))
