-- A step of the register over four bits.
use Rattle.std.proofs.Common.{◌/◌, ◌^◌, subst}
use Rattle.std.specs.Int.Bits.{bit_xor}
use Rattle.can_frame.specs.Frame.{field_bits}
use Rattle.frame_bits.specs.Inside.Crc.{IsRegister}
use Rattle.frame_bits.proofs.NibbleSteps.{IsRegister-nibble, nibble_shifted, nibble_next-lt, leading-lt}
use Rattle.frame_bits.proofs.crc.Crc.push_nibble.Goals as goal

pub remainder-requires : goal.remainder-requires
remainder-requires c = rw c.from.ensures (leading-lt c.args.self.now.register c.args.nibble c.args.self.now.in_range c.requires)

pub invariant_of-self : goal.invariant_of-self
invariant_of-self c = record {
  in_range = rw (nibble_shifted c.args.self.now.register) (nibble_next-lt c.args.self.now.register _ c.remainder.ensures.range);
}

pub returns : goal.returns
returns c = λ bits now.
    let r = c.args.self.now.register in
    let left = subst (λ n. IsRegister c.remainder.result (field_bits 4 (bit_xor (r / 2 ^ 11) n))) c.from.ensures c.remainder.ensures.value in
    rw (nibble_shifted r) (IsRegister-nibble r _ c.args.nibble bits left now)
