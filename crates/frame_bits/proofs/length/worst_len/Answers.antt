-- The bound on all lengths.
use Rattle.std.proofs.Common.{◌≡◌, ◌+◌, ◌*◌, sym, subst, rules}
use Rattle.frame_bits.specs.Length.{unstuffed_len, worst_length, BoundsLengths}
use Rattle.frame_bits.proofs.Lengths.{BoundsLengths-worst}
use Rattle.frame_bits.proofs.length.worst_len.Goals as goal
use Rattle.frame_bits.proofs.length.worst_len.Goals.{then-ext, else-ext}

pub returns-clause-bound : goal.returns-clause-bound
returns-clause-bound c =
    let unstuffed : c.if-ext.fields + 8 * c.from.result ≡ unstuffed_len c.args.ext c.args.bytes =
    elim c.if-ext.branch [ then-ext w ↦ search rules | else-ext w ↦ search rules ] in
    subst (λ u. BoundsLengths c.args.ext c.args.bytes (worst_length u)) (sym unstuffed) (BoundsLengths-worst c.args.ext c.args.bytes)
