-- No more pieces than bytes.
use Rattle.std.proofs.Common.{rules, arith}
use Rattle.write_format.proofs.ShortLemmas.{pieces_few}
use Rattle.write_format.proofs.format.has_few_pieces.Goals as goal

pub returns-then-text-lt-LIMIT : goal.returns-then-text-lt-LIMIT
returns-then-text-lt-LIMIT c pieces spelled =
    let few = pieces_few pieces c.args.text.now spelled in
    let short = c.if-text-lt-LIMIT.true in
    (λ _. omega (arith, few, short), λ _. search rules)
