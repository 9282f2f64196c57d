-- A call is sound with its arguments as a list.
use Rattle.std.proofs.Common.{◌≡◌, false, true}
use Rattle.sound_check.proofs.Rows.{call_sound, node_of_sound}
use Rattle.sound_check.proofs.expression.+expression.Goals as goal

pub is_sound_expr-returns-then-not-is_sound_node : goal.is_sound_expr-returns-then-not-is_sound_node
is_sound_expr-returns-then-not-is_sound_node t c = (
  λ h. absurd (let e : false ≡ true = h in cc),
  λ h.
      let e : c.is_sound_node.result ≡ true =
      c.is_sound_node.ensures.1 (node_of_sound c.args.typed.now c.args.number c.args.e.now h) in
      cc,
)

pub is_sound_expr-returns-then-gives_number : goal.is_sound_expr-returns-then-gives_number
is_sound_expr-returns-then-gives_number t c =
    let sound = call_sound c.args.typed.now c.args.number c.args.e.now c.in-Call.function c.in-Call.args c.in-Call.is in (
      λ h. sound.1 (
        c.is_sound_node.ensures.0 c.if-not-is_sound_node.false,
        c.gives_number.ensures.0 c.if-gives_number.true,
        rw c.as_slice.ensures at (c.are_sound_exprs.ensures.0 h),
      ),
      λ h. c.are_sound_exprs.ensures.1 (rw c.as_slice.ensures (sound.0 h).2),
    )
