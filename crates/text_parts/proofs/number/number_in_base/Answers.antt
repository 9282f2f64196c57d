-- Where the digits so far pass 64 bits, so do all digits.
use Rattle.std.proofs.Common.{◌≡◌, ◌^◌, ◌≤◌, ◌+◌, ◌*◌, take, ap, ◌∙◌, arith}
use Rattle.text_parts.specs.Number.{number_in}
use Rattle.text_parts.proofs.NumberLemmas.{number_in-more, number_in-take-le, number_of_64_bits-above}
use Rattle.text_parts.proofs.number.number_in_base.Goals as goal

pub returns-in_err-checked_mul : goal.returns-in_err-checked_mul
returns-in_err-checked_mul c =
    let more = number_in-more c.args.base c.args.digits.now c.loop-digit.digit-index c.loop-digit-test.true in
    let whole = number_in-take-le c.args.base c.args.digits.now (c.loop-digit.digit-index + 1) c.requires.base in
    let same : c.loop-digit.number * c.args.base ≡ number_in c.args.base (take c.loop-digit.digit-index c.args.digits.now) * c.args.base =
    ap (λ n. n * c.args.base) c.loop-digit.invariant.is_number in
    let above : 2 ^ 64 ≤ number_in c.args.base c.args.digits.now = omega (arith, c.in_err-checked_mul.ensures) in
    c.from_residual.ensures ∙ number_of_64_bits-above (number_in c.args.base c.args.digits.now) above

pub returns-in_err-number : goal.returns-in_err-number
returns-in_err-number c =
    let more = number_in-more c.args.base c.args.digits.now c.loop-digit.digit-index c.loop-digit-test.true in
    let whole = number_in-take-le c.args.base c.args.digits.now (c.loop-digit.digit-index + 1) c.requires.base in
    let same : c.loop-digit.number * c.args.base ≡ number_in c.args.base (take c.loop-digit.digit-index c.args.digits.now) * c.args.base =
    ap (λ n. n * c.args.base) c.loop-digit.invariant.is_number in
    let above : 2 ^ 64 ≤ number_in c.args.base c.args.digits.now =
    omega (arith, c.in_err-number.ensures, c.in_ok-checked_mul.ensures, c.value_of.ensures) in
    c.from_residual-in_err-number.ensures ∙ number_of_64_bits-above (number_in c.args.base c.args.digits.now) above
