-- Each way that a field may be no stamp, and its parts where it is one.
use Rattle.std.proofs.Common.{◌≡◌, ◌++◌, length, Some, sym, ap, ◌∙◌, arith}
use Rattle.std.specs.Prelude.{codes}
use Rattle.std.proofs.lemmas.Bool.Decides.{Decides-eqb}
use Rattle.std.proofs.lemmas.Slice.Eq.{strip_prefix_is, strip_suffix_is}
use Rattle.log_line.proofs.StampLemmas.{no_dot, same_parts, whole_number, fraction_number, stamp_is}
use Rattle.log_line.proofs.stamp.stamp_of.Goals as goal
use Rattle.log_line.proofs.stamp.stamp_of.Goals.{then-whole-gt15-via-then-whole-gt15, then-whole-gt15-via-else-whole-gt15+then-fraction-ne6}

pub returns-in_err-whole : goal.returns-in_err-whole
returns-in_err-whole c =
    let front = strip_prefix_is Decides-eqb c.args.field.now (codes "(") (Some c.in_ok-strip_prefix.field-0) c.in_ok-strip_prefix.ensures.cases in
    let back = strip_suffix_is Decides-eqb c.in_ok-strip_prefix.field-0.now (codes ")") (Some c.in_ok-inside.inside) c.in_ok-inside.ensures.cases in
    rw c.from_residual-in_err-whole.ensures
    (λ stamp is. no_dot c.args.field.now c.in_ok-inside.inside.now stamp.seconds stamp.micros (front ∙ ap (λ l. codes "(" ++ l) back) c.in_err-whole.ensures.none is)

pub returns-then-whole-gt15 : goal.returns-then-whole-gt15
returns-then-whole-gt15 c = λ stamp is.
    let front = strip_prefix_is Decides-eqb c.args.field.now (codes "(") (Some c.in_ok-strip_prefix.field-0) c.in_ok-strip_prefix.ensures.cases in
    let back = strip_suffix_is Decides-eqb c.in_ok-strip_prefix.field-0.now (codes ")") (Some c.in_ok-inside.inside) c.in_ok-inside.ensures.cases in
    let same = same_parts c.args.field.now c.in_ok-inside.inside.now c.in_ok-whole.whole.now c.in_ok-whole.fraction.now stamp.seconds stamp.micros (front ∙ ap (λ l. codes "(" ++ l) back) c.in_ok-whole.ensures.found c.in_ok-whole.ensures.first is in
    let whole : length c.in_ok-whole.whole.now ≡ length is.whole = ap length same.0 in
    let fraction : length c.in_ok-whole.fraction.now ≡ length is.fraction = ap length same.1 in
    let short = is.at_most_fifteen in
    let six = is.six in
    elim c.then-whole-gt15.branch [
      | then-whole-gt15-via-then-whole-gt15 w ↦ absurd (omega (arith, whole, short, w.if-whole-gt15.true))
      | then-whole-gt15-via-else-whole-gt15+then-fraction-ne6 w ↦ absurd (omega (arith, fraction, six, w.if-fraction-ne6.true))
    ]

pub returns-in_err-seconds : goal.returns-in_err-seconds
returns-in_err-seconds c =
    let front = strip_prefix_is Decides-eqb c.args.field.now (codes "(") (Some c.in_ok-strip_prefix.field-0) c.in_ok-strip_prefix.ensures.cases in
    let back = strip_suffix_is Decides-eqb c.in_ok-strip_prefix.field-0.now (codes ")") (Some c.in_ok-inside.inside) c.in_ok-inside.ensures.cases in
    rw c.from_residual-in_err-seconds.ensures
    (λ stamp is.
    let same = same_parts c.args.field.now c.in_ok-inside.inside.now c.in_ok-whole.whole.now c.in_ok-whole.fraction.now stamp.seconds stamp.micros (front ∙ ap (λ l. codes "(" ++ l) back) c.in_ok-whole.ensures.found c.in_ok-whole.ensures.first is in
    let number = whole_number c.args.field.now stamp.seconds stamp.micros is in
    let none = c.in_err-seconds.ensures in
    let w = same.0 in
    cc)

pub returns-in_err-micros : goal.returns-in_err-micros
returns-in_err-micros c =
    let front = strip_prefix_is Decides-eqb c.args.field.now (codes "(") (Some c.in_ok-strip_prefix.field-0) c.in_ok-strip_prefix.ensures.cases in
    let back = strip_suffix_is Decides-eqb c.in_ok-strip_prefix.field-0.now (codes ")") (Some c.in_ok-inside.inside) c.in_ok-inside.ensures.cases in
    rw c.from_residual-in_err-micros.ensures
    (λ stamp is.
    let same = same_parts c.args.field.now c.in_ok-inside.inside.now c.in_ok-whole.whole.now c.in_ok-whole.fraction.now stamp.seconds stamp.micros (front ∙ ap (λ l. codes "(" ++ l) back) c.in_ok-whole.ensures.found c.in_ok-whole.ensures.first is in
    let number = fraction_number c.args.field.now stamp.seconds stamp.micros is in
    let none = c.in_err-micros.ensures in
    let f = same.1 in
    cc)

pub returns : goal.returns
returns c =
    let front = strip_prefix_is Decides-eqb c.args.field.now (codes "(") (Some c.in_ok-strip_prefix.field-0) c.in_ok-strip_prefix.ensures.cases in
    let back = strip_suffix_is Decides-eqb c.in_ok-strip_prefix.field-0.now (codes ")") (Some c.in_ok-inside.inside) c.in_ok-inside.ensures.cases in
    stamp_is c.args.field.now c.in_ok-inside.inside.now c.in_ok-whole.whole.now c.in_ok-whole.fraction.now c.in_ok-seconds.seconds c.in_ok-micros.micros
    (front ∙ ap (λ l. codes "(" ++ l) back) c.in_ok-whole.ensures.found (omega arith) (omega arith) (sym c.in_ok-seconds.ensures) (sym c.in_ok-micros.ensures)
