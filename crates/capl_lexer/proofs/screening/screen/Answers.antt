-- The token that is found breaks its rule, and one that breaks a rule is not passed over.
use Rattle.std.proofs.Common.{◌≡◌, ◌<◌, ℕ, length, inl, inr, ap, subst, arith}
use Rattle.std.proofs.lemmas.Bool.{cases_lt}
use Rattle.texts.specs.declared.blame.Rule.{Rule}
use Rattle.capl_lexer.specs.Screening.{Breaks}
use Rattle.capl_lexer.proofs.ScreeningLemmas.{breaks_at, breaks-parts, breaks-within}
use Rattle.capl_lexer.proofs.screening.screen.Goals as goal

pub returns-in-Some-clause-breaks : goal.returns-in-Some-clause-breaks
returns-in-Some-clause-breaks c =
    breaks_at c.args.tokens.now c.loop-place.place c.index-tokens-place.result c.in-Some.rule c.loop-place-test.true c.index-tokens-place.is c.in-Some.ensures

pub loop-place-preserved : goal.loop-place-preserved
loop-place-preserved c = λ earlier rule less breaks.
    let tokens = c.args.tokens.now in
    let place = c.loop-place.place in
    elim (cases_lt earlier place) [
      | inl before ↦ c.loop-place.invariant earlier rule before breaks
      | inr here ↦
          let same : earlier ≡ place = omega arith in
          let parts = breaks-parts tokens place rule c.index-tokens-place.result (subst (λ n. Breaks tokens n rule) same breaks) c.index-tokens-place.is in
          c.in_default.ensures rule parts.1
    ]

pub returns-clause-none : goal.returns-clause-none
returns-clause-none c = λ place rule breaks.
    let within = breaks-within c.args.tokens.now place rule breaks in
    let end = c.loop-place-test.false in
    c.loop-place.invariant place rule (omega arith) breaks
