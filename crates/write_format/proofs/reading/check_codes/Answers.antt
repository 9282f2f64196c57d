-- Which answer stands for which text.
use Rattle.std.proofs.Common.{◌≡◌, Some, None, refl, sym, ◌∙◌}
use Rattle.write_format.specs.Reading.{AreMatched, codes_of, first_unfit}
use Rattle.write_format.proofs.ReadingLemmas.{count_differs, one_unfit}
use Rattle.write_format.proofs.reading.check_codes.Goals as goal

pub returns-then-survey-args-clause-wrong : goal.returns-then-survey-args-clause-wrong
returns-then-survey-args-clause-wrong c =
    let found = c.in-Some.ensures.some in
    (λ _ has. count_differs c.args.text.now c.args.args.now found.0 found.1 (λ same. c.if-survey-args.true (found.2 ∙ same)) has, λ _. refl)

pub returns-then-survey-args-clause-unfit : goal.returns-then-survey-args-clause-unfit
returns-then-survey-args-clause-unfit c place =
    let found = c.in-Some.ensures.some in (
      λ wrong. absurd (cc),
      λ unfit. absurd (count_differs c.args.text.now c.args.args.now found.0 found.1 (λ same. c.if-survey-args.true (found.2 ∙ same)) (unfit.0, unfit.1)),
    )

pub returns-in-Some-unfit-clause-unfit : goal.returns-in-Some-unfit-clause-unfit
returns-in-Some-unfit-clause-unfit c place =
    let found = c.in-Some.ensures.some in
    let matched : AreMatched c.args.text.now c.args.args.now found.0 = record { spelled = found.1; count = sym found.2 ∙ c.if-survey-args.false } in
    let first : first_unfit (codes_of found.0) c.args.args.now ≡ Some c.in-Some-unfit.place = sym found.3 ∙ c.in-Some-unfit.is in (
      λ wrong. (found.0, matched, (let same : Some c.in-Some-unfit.place ≡ Some place = cc in first ∙ same)),
      λ unfit. let same : Some c.in-Some-unfit.place ≡ Some place = sym c.in-Some-unfit.is ∙ one_unfit c.args.text.now c.args.args.now found.0 c.in-Some.survey.unfit found.1 found.3 place unfit in cc,
    )

pub returns-clause-fit : goal.returns-clause-fit
returns-clause-fit c =
    let found = c.in-Some.ensures.some in
    let matched : AreMatched c.args.text.now c.args.args.now found.0 = record { spelled = found.1; count = sym found.2 ∙ c.if-survey-args.false } in
    (found.0, matched, sym found.3 ∙ c.in_default-unfit.is)

pub returns-clause-unfit : goal.returns-clause-unfit
returns-clause-unfit c place =
    let found = c.in-Some.ensures.some in (
      λ wrong. absurd (cc),
      λ unfit. let none : None ≡ Some place = sym c.in_default-unfit.is ∙ one_unfit c.args.text.now c.args.args.now found.0 c.in-Some.survey.unfit found.1 found.3 place unfit in absurd (cc),
    )
