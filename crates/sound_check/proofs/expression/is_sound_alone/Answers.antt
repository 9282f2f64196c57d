-- A call is sound with its arguments as a list.
use Rattle.sound_check.proofs.Rows.{call_alone}
use Rattle.sound_check.proofs.expression.is_sound_alone.Goals as goal

pub returns-then-is_sound_node : goal.returns-then-is_sound_node
returns-then-is_sound_node c =
    let sound = call_alone c.args.typed.now c.args.number c.args.e.now c.in-Call.function c.in-Call.args c.in-Call.is in (
      λ h. sound.1 (c.is_sound_node.ensures.0 c.if-is_sound_node.true, rw c.as_slice.ensures at (c.are_sound_exprs.ensures.0 h)),
      λ h. c.are_sound_exprs.ensures.1 (rw c.as_slice.ensures (sound.0 h).1),
    )
