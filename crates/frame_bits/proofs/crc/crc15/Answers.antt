-- One more bit in the register.
use Rattle.std.proofs.Common.{arith, sym, subst, false, take}
use Rattle.std.proofs.lemmas.List.{take_more}
use Rattle.frame_bits.specs.Inside.Crc.{IsRegister}
use Rattle.frame_bits.proofs.crc.crc15.Goals as goal

pub loop-bit-preserved : goal.loop-bit-preserved
loop-bit-preserved c =
    let pushed = c.push.ensures (take c.loop-bit.bit-index c.args.bits.now) c.loop-bit.invariant in
    subst (IsRegister c.push.new.self.register) (sym (take_more c.args.bits.now c.loop-bit.bit-index false (omega arith))) pushed
