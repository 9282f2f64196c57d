-- Each piece extends the reading, and at the end of the text it is whole.
use Rattle.std.proofs.Common.{◌≡◌, ◌<◌, ◌≤◌, ◌+◌, ◌-◌, ◌++◌, ℕ, List, [], ◌∷◌, length, take, drop, refl, sym, ap, ◌∙◌, subst, arith, rules, Option, Some, MatchOption}
use Rattle.std.proofs.lemmas.List.{take_rest}
use Rattle.capl_lexer.specs.Reading.{IsReading, token_limit}
use Rattle.capl_lexer.specs.Inside.Step.{IsStep, HasNoPiece}
use Rattle.capl_lexer.specs.declared.step.Step.{Step}
use Rattle.capl_lexer.specs.declared.token.Tok.{Tok}
use Rattle.capl_lexer.specs.declared.token.Token.{Token}
use Rattle.capl_lexer.proofs.ReadingLemmas.{reading-unique, bad_place-reading}
use Rattle.capl_lexer.proofs.PartialReadingLemmas.{HasKept, keep_passed, keep_blank, keep_one, kept_all, kept_many, step-positive, step-in_line, reading_from, bad_place_from, line-le, column-le}
use Rattle.capl_lexer.proofs.reading.lex.Goals as goal

-- the step that was found at the place
found_step : (text : List ℕ) (place : ℕ) (found : Option Step) (step : Step) → found ≡ Some step
    → MatchOption found (HasNoPiece (take (length text - place) (drop place text))) (IsStep (take (length text - place) (drop place text)))
    → IsStep (drop place text) step
found_step text place found step is ensures =
    let here = take (length text - place) (drop place text) in
    subst (λ t. IsStep t step) (take_rest text place)
    (subst (λ (f : Option Step). MatchOption f (HasNoPiece here) (IsStep here)) is ensures)

pub overflow_cast-result : goal.overflow_cast-result
overflow_cast-result c = omega (arith, line-le c.args.bytes.now c.loop-position.position c.loop-position.invariant.at, c.loop-position-test.true, c.requires)

pub overflow_cast-result-in_default : goal.overflow_cast-result-in_default
overflow_cast-result-in_default c = omega (arith, column-le c.args.bytes.now c.loop-position.position c.loop-position.invariant.at, c.loop-position-test.true, c.requires)

pub returns-in_default-clause-no_reading : goal.returns-in_default-clause-no_reading
returns-in_default-clause-no_reading c = λ tokens reading.
    let text = c.args.bytes.now in
    let place = c.loop-position.position.place in
    let here = take (length text - place) (drop place text) in
    let none = subst HasNoPiece (take_rest text place)
    (subst (λ (f : Option Step). MatchOption f (HasNoPiece here) (IsStep here)) c.in_default.is c.in_ok-step.ensures) in
    let has = c.loop-position.invariant.read in
    bad_place-reading text place tokens (bad_place_from text place has.all has.read c.loop-position-test.true none) reading

pub loop-position-preserved-then-contains : goal.loop-position-preserved-then-contains
loop-position-preserved-then-contains c =
    let text = c.args.bytes.now in
    let place = c.loop-position.position.place in
    let blank = c.contains.ensures.0 c.if-contains.true in
    record {
      at = c.next-position.ensures.at;
      read = subst (λ n. HasKept token_limit text n c.loop-position.tokens.items) (sym c.next-position.ensures.place)
          (keep_blank token_limit text place c.loop-position.tokens.items c.loop-position.invariant.read c.loop-position-test.true blank);
    }

pub along-next-requires-clause-in_line : goal.along-next-requires-clause-in_line
along-next-requires-clause-in_line c =
    let text = c.args.bytes.now in
    let place = c.loop-position.position.place in
    let is = found_step text place c.in_ok-step.field-0 c.in-Some.step c.in-Some.is c.in_ok-step.ensures in
    step-in_line text place c.in-Some.step c.in-Some-tok.tok is c.in-Some-tok.is

pub loop-position-smaller-in-Some-tok : goal.loop-position-smaller-in-Some-tok
loop-position-smaller-in-Some-tok c =
    let text = c.args.bytes.now in
    let place = c.loop-position.position.place in
    let is = found_step text place c.in_ok-step.field-0 c.in-Some.step c.in-Some.is c.in_ok-step.ensures in
    omega (arith, step-positive text place c.in-Some.step is, c.along-next.ensures.place, c.loop-position-test.true)

pub loop-position-preserved-in-Some-tok : goal.loop-position-preserved-in-Some-tok
loop-position-preserved-in-Some-tok c =
    let text = c.args.bytes.now in
    let place = c.loop-position.position.place in
    let step = c.in-Some.step in
    let is = found_step text place c.in_ok-step.field-0 step c.in-Some.is c.in_ok-step.ensures in
    let token : Tok → Token = λ tok. record {
      tok = tok;
      from = place;
      to = c.along-next.result.place;
      line = c.loop-position.position.line;
      column = c.loop-position.position.column;
    } in
    let same = ap (λ (tok : Tok). c.loop-position.tokens.items ++ token tok ∷ []) c.in-Some-tok.tok-is in
    let at = c.loop-position.invariant.at in
    record {
      at = c.along-next.ensures.at;
      read = subst (λ n. HasKept token_limit text n c.keep.new.tokens.items) (sym c.along-next.ensures.place)
          (keep_one token_limit text place c.loop-position.tokens.items c.keep.new.tokens.items step (token c.in-Some-tok.tok) c.loop-position.invariant.read is
          c.in-Some-tok.is refl c.along-next.ensures.place at.line at.column (λ few. c.in_ok-keep.ensures.kept few ∙ same) c.in_ok-keep.ensures.enough);
    }

pub loop-position-smaller : goal.loop-position-smaller
loop-position-smaller c =
    let text = c.args.bytes.now in
    let place = c.loop-position.position.place in
    let is = found_step text place c.in_ok-step.field-0 c.in-Some.step c.in-Some.is c.in_ok-step.ensures in
    omega (arith, step-positive text place c.in-Some.step is, c.after-position.ensures.place, c.loop-position-test.true)

pub loop-position-preserved : goal.loop-position-preserved
loop-position-preserved c =
    let text = c.args.bytes.now in
    let place = c.loop-position.position.place in
    let is = found_step text place c.in_ok-step.field-0 c.in-Some.step c.in-Some.is c.in_ok-step.ensures in
    record {
      at = c.after-position.ensures.at;
      read = subst (λ n. HasKept token_limit text n c.loop-position.tokens.items) (sym c.after-position.ensures.place)
          (keep_passed token_limit text place c.loop-position.tokens.items c.in-Some.step c.loop-position.invariant.read is c.in_default-tok.is);
    }

pub returns-then-len-gt-TOKEN_LIMIT-clause-refusal : goal.returns-then-len-gt-TOKEN_LIMIT-clause-refusal
returns-then-len-gt-TOKEN_LIMIT-clause-refusal c =
    let text = c.args.bytes.now in
    let place = c.loop-position.position.place in
    let has = c.loop-position.invariant.read in
    let many : token_limit < length c.loop-position.tokens.items = first_of (omega arith, search rules) in
    (has.all, reading_from text place has.all has.read c.loop-position-test.false, kept_many token_limit text place c.loop-position.tokens.items has many)

pub returns-then-len-gt-TOKEN_LIMIT-clause-no_reading : goal.returns-then-len-gt-TOKEN_LIMIT-clause-no_reading
returns-then-len-gt-TOKEN_LIMIT-clause-no_reading c = λ tokens reading.
    let text = c.args.bytes.now in
    let place = c.loop-position.position.place in
    let has = c.loop-position.invariant.read in
    let many : token_limit < length c.loop-position.tokens.items = first_of (omega arith, search rules) in
    subst (λ (t : List Token). token_limit < length t)
    (reading-unique text has.all tokens (reading_from text place has.all has.read c.loop-position-test.false) reading)
    (kept_many token_limit text place c.loop-position.tokens.items has many)

pub returns-clause-reading : goal.returns-clause-reading
returns-clause-reading c =
    let text = c.args.bytes.now in
    let place = c.loop-position.position.place in
    let has = c.loop-position.invariant.read in
    let few : length c.loop-position.tokens.items ≤ token_limit = first_of (omega arith, search rules) in
    subst (IsReading text) (sym (kept_all token_limit text place c.loop-position.tokens.items has few))
    (reading_from text place has.all has.read c.loop-position-test.false)

pub returns-clause-only : goal.returns-clause-only
returns-clause-only c = λ others reading.
    let text = c.args.bytes.now in
    let place = c.loop-position.position.place in
    let has = c.loop-position.invariant.read in
    let few : length c.loop-position.tokens.items ≤ token_limit = first_of (omega arith, search rules) in
    reading-unique text others has.all reading (reading_from text place has.all has.read c.loop-position-test.false)
    ∙ sym (kept_all token_limit text place c.loop-position.tokens.items has few)
