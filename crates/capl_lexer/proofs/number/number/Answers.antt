-- A point behind the run of digits makes a number with a point.
use Rattle.std.proofs.Common.{◌≡◌, ℕ, ◌-◌, ◌+◌, List, [], ◌∷◌, drop, take, length, get_or, sym, subst, ap, ◌∙◌, arith}
use Rattle.std.proofs.lemmas.List.{take_rest, drop_more}
use Rattle.std.proofs.lemmas.Bool.{iff_false}
use Rattle.capl_lexer.specs.Inside.ByteClass.{IsFirstInClass, IsRun}
use Rattle.capl_lexer.specs.declared.byte_class.ByteClass.TheVariants as class
use Rattle.capl_lexer.proofs.FrontLemmas.{first_after}
use Rattle.capl_lexer.proofs.NumberFronts.{no_point, float_front}
use Rattle.capl_lexer.proofs.number.number.Goals as goal

pub integer-requires-clause-no_point : goal.integer-requires-clause-no_point
integer-requires-clause-no_point c =
    let text = c.args.text.now in
    let whole = c.run-whole.result in
    no_point text whole c.run-whole.ensures
    (λ point. iff_false c.begins.ensures c.if-not-begins.true (subst (IsFirstInClass class.Point) (sym (take_rest text whole)) point))

pub returns : goal.returns
returns c =
    let text = c.args.text.now in
    let whole = c.run-whole.result in
    let (within, is_point) = first_after class.Point text whole (subst (IsFirstInClass class.Point) (take_rest text whole) (c.begins.ensures.0 c.if-not-begins.false)) in
    let behind : drop whole text ≡ 46 ∷ drop (whole + 1) text = drop_more text whole 0 within ∙ ap (λ b. b ∷ drop (whole + 1) text) is_point in
    float_front text (drop (whole + 1) text) whole c.run-fraction.result c.requires c.run-whole.ensures behind
    (subst (λ b. IsRun class.Digit b c.run-fraction.result) (take_rest text (whole + 1)) c.run-fraction.ensures)
