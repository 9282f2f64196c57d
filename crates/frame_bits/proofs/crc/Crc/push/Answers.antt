-- A step of the register.
use Rattle.std.proofs.Common.{arith}
use Rattle.frame_bits.proofs.CrcSteps.{IsRegister-push, division_step_zero, division_step_one, shifted_is, next-lt, leads_same, leads_other}
use Rattle.frame_bits.proofs.crc.Crc.push.Goals as goal
use Rattle.frame_bits.proofs.crc.Crc.push.Goals.{then-leading-bit, else-leading-bit}

pub invariant_of-self : goal.invariant_of-self
invariant_of-self c =
    let r = c.args.self.now.register in
    record {
      in_range = elim c.if-leading-bit.branch [
        | then-leading-bit w ↦ rw (w.self-is, shifted_is r) (omega arith)
        | else-leading-bit w ↦ rw (w.self-is, shifted_is r) (next-lt r)
      ];
    }

pub returns : goal.returns
returns c =
    let r = c.args.self.now.register in
    elim c.if-leading-bit.branch [
      | then-leading-bit w ↦ rw (w.self-is, shifted_is r) (λ bits. IsRegister-push r _ c.args.bit bits (λ more h. division_step_zero r c.args.bit more h (leads_same r c.args.bit c.args.self.now.in_range w.if-leading-bit.true)))
      | else-leading-bit w ↦ rw (w.self-is, shifted_is r) (λ bits. IsRegister-push r _ c.args.bit bits (λ more h. division_step_one r c.args.bit more h (leads_other r c.args.bit c.args.self.now.in_range w.if-leading-bit.false)))
    ]
