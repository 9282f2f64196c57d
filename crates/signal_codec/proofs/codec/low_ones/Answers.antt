-- All ones, shifted down.
use Rattle.std.proofs.Common.{◌≡◌, ◌-◌, ◌^◌, arith, ap, ◌∙◌}
use Rattle.std.proofs.lemmas.Nat.Bits.{ones_shr}
use Rattle.signal_codec.proofs.codec.low_ones.Goals as goal

pub returns : goal.returns
returns c =
    let left : 64 - (64 - c.args.count) ≡ c.args.count = omega arith in
    ones_shr 64 (64 - c.args.count) (omega arith) ∙ ap (λ n. 2 ^ n - 1) left
