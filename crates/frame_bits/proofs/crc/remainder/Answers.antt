-- The table has what each nibble leaves.
use Rattle.std.proofs.Common.{refl, sym, subst, ap, ◌∙◌, get_or}
use Rattle.can_frame.specs.Frame.{field_bits}
use Rattle.frame_bits.specs.declared.crc.TheConstants.{REMAINDERS}
use Rattle.frame_bits.specs.Inside.Crc.{IsRegister}
use Rattle.frame_bits.proofs.NibbleSteps.{entry, left_by, left_by-is}
use Rattle.frame_bits.proofs.crc.remainder.Goals as goal

pub returns-clause-range : goal.returns-clause-range
unfolding field_bits
returns-clause-range c =
    rw (c.from.ensures, entry left_by 16 c.args.nibble REMAINDERS refl c.requires) (left_by-is c.args.nibble).0

pub returns-clause-value : goal.returns-clause-value
unfolding field_bits
returns-clause-value c =
    let at = ap (λ i. get_or REMAINDERS i 0) c.from.ensures ∙ entry left_by 16 c.args.nibble REMAINDERS refl c.requires in
    subst (λ r. IsRegister r (field_bits 4 c.args.nibble)) (sym at) (left_by-is c.args.nibble).1
