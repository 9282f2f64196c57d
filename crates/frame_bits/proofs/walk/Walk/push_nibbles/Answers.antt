-- One more nibble.
use Rattle.std.proofs.Common.{subst, arith}
use Rattle.frame_bits.specs.Inside.Walk.{HasWalked}
use Rattle.frame_bits.proofs.FieldSteps.{nibbles_start, nibbles_grow, nibbles_end}
use Rattle.frame_bits.proofs.walk.Walk.push_nibbles.Goals as goal

pub loop-place-init : goal.loop-place-init
loop-place-init c = record {
  walked = λ bits now. subst (HasWalked c.args.self.now) (nibbles_start bits c.args.nibbles _) now;
  counted = omega arith;
}

pub loop-place-preserved : goal.loop-place-preserved
loop-place-preserved c = record {
  walked = λ bits now. subst (HasWalked c.push_nibble.new.self) (nibbles_grow bits c.args.nibbles c.loop-place.place c.args.number (omega arith) (omega arith)) (c.push_nibble.ensures.walked _ (c.loop-place.invariant.walked bits now));
  counted = omega arith;
}

pub returns-clause-walked : goal.returns-clause-walked
returns-clause-walked c =
    λ bits now. subst (HasWalked c.loop-place.self) (nibbles_end bits c.args.nibbles c.loop-place.place c.args.number (omega arith)) (c.loop-place.invariant.walked bits now)
