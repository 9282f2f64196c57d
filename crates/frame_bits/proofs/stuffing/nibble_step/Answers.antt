-- The table has each step.
use Rattle.std.proofs.Common.{◌+◌, ◌*◌, ◌<◌, ◌∙◌, refl, arith}
use Rattle.can_frame.specs.Frame.{field_bits}
use Rattle.frame_bits.specs.declared.stuffing.TheConstants.{STEPS}
use Rattle.frame_bits.proofs.NibbleSteps.{entry, step_at, step_at-is}
use Rattle.frame_bits.proofs.stuffing.nibble_step.Goals as goal

pub returns : goal.returns
unfolding field_bits
returns c =
    let at = 16 * c.args.row + c.args.nibble in
    let inside : at < 160 = omega (arith, c.requires.row, c.requires.nibble) in
    rw c.from.ensures (entry step_at 160 at STEPS refl inside ∙ step_at-is c.args.row c.args.nibble c.requires.nibble)
