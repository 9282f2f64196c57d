-- One more bit of a field.
use Rattle.std.proofs.Common.{subst, arith}
use Rattle.frame_bits.specs.Inside.Walk.{HasWalked}
use Rattle.frame_bits.proofs.FieldSteps.{field_starts, field_grows, field_ends}
use Rattle.frame_bits.proofs.walk.Walk.push_bits.Goals as goal

pub loop-place-init : goal.loop-place-init
loop-place-init c = record {
  walked = λ bits now. subst (HasWalked c.args.self.now) (field_starts bits c.args.field.width _) now;
  counted = omega arith;
}

pub loop-place-preserved : goal.loop-place-preserved
loop-place-preserved c = record {
  walked = λ bits now. subst (HasWalked c.push_bit.new.self) (field_grows bits c.args.field.width c.loop-place.place c.args.field.number (omega arith) (omega arith)) (c.push_bit.ensures.walked _ (c.loop-place.invariant.walked bits now));
  counted = omega arith;
}

pub returns-clause-walked : goal.returns-clause-walked
returns-clause-walked c =
    λ bits now. subst (HasWalked c.loop-place.self) (field_ends bits c.args.field.width c.loop-place.place c.args.field.number (omega arith)) (c.loop-place.invariant.walked bits now)
