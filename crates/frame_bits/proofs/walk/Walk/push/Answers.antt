-- The leading bits of a field, and then its nibbles.
use Rattle.std.proofs.Common.{subst}
use Rattle.frame_bits.specs.Inside.Walk.{HasWalked}
use Rattle.frame_bits.proofs.FieldSteps.{field_nibbles}
use Rattle.frame_bits.proofs.walk.Walk.push.Goals as goal

pub returns-clause-walked : goal.returns-clause-walked
returns-clause-walked c = λ bits now.
    let lead = c.new.ensures in
    subst (HasWalked c.push_nibbles.new.self) (field_nibbles bits c.args.field.width c.args.field.number _ _ lead.width lead.number)
    (c.push_nibbles.ensures.walked _ (c.push_bits.ensures.walked bits now))
