-- One more byte.
use Rattle.std.proofs.Common.{◌∙◌, subst, arith}
use Rattle.can_frame.specs.Frame.{field_bits}
use Rattle.frame_bits.specs.Inside.Field.{bits_in}
use Rattle.frame_bits.specs.Inside.Walk.{HasWalked}
use Rattle.frame_bits.proofs.FieldSteps.{fields_grow, fields_end, number_field}
use Rattle.frame_bits.proofs.walk.Walk.push_bytes.Goals as goal

pub loop-byte-preserved : goal.loop-byte-preserved
loop-byte-preserved c =
    let field = c.new.result in
    record {
      walked = λ bits now. subst (HasWalked c.push.new.self) (fields_grow (field_bits 8) bits c.args.bytes.now c.loop-byte.byte-index _ (bits_in field) (omega arith) (number_field _ _ 8 _ c.new.ensures.width (c.new.ensures.number ∙ c.from.ensures))) (c.push.ensures.walked _ (c.loop-byte.invariant.walked bits now));
      counted = omega arith;
    }

pub returns-clause-walked : goal.returns-clause-walked
returns-clause-walked c =
    λ bits now. subst (HasWalked c.loop-byte.self) (fields_end (field_bits 8) bits c.args.bytes.now c.loop-byte.byte-index (omega arith)) (c.loop-byte.invariant.walked bits now)
