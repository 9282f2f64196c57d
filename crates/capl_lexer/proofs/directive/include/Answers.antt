-- Blanks and a name between quotes behind `#include` name a file.
use Rattle.std.proofs.Common.{◌≡◌, ◌+◌, ◌-◌, ℕ, Bool, List, [], ◌∷◌, ◌++◌, length, take, drop, get_or, true, ap, ◌∙◌, sym, subst, arith, length-drop}
use Rattle.std.specs.Prelude.{codes}
use Rattle.std.proofs.lemmas.Bool.{iff_false}
use Rattle.std.proofs.lemmas.Bool.Decides.{Decides-eqb}
use Rattle.std.proofs.lemmas.List.{take_rest, drop-drop, drop_more}
use Rattle.std.proofs.lemmas.Slice.Eq.{starts_is}
use Rattle.capl_lexer.specs.Inside.ByteClass.{IsFirstInClass, IsRun}
use Rattle.capl_lexer.specs.Inside.Front.{IsTokenFront}
use Rattle.capl_lexer.specs.declared.byte_class.ByteClass.TheVariants as class
use Rattle.capl_lexer.specs.declared.token.Tok.TheVariants as tok
use Rattle.capl_lexer.proofs.FrontLemmas.{first_after}
use Rattle.capl_lexer.proofs.DirectiveFronts.{include_elsewhere, include_unquoted, include_open, included_from, include_front}
use Rattle.capl_lexer.proofs.directive.include.Goals as goal

-- a quote and what follows it
quote_at : (text : List ℕ) (place : ℕ) → IsFirstInClass class.Quote (drop place text)
    → drop place text ≡ 34 ∷ drop (place + 1) text
quote_at text place quote =
    let (within, is) = first_after class.Quote text place quote in
    drop_more text place 0 within ∙ ap (λ b. b ∷ drop (place + 1) text) is

pub returns-then-not-starts_with : goal.returns-then-not-starts_with
returns-then-not-starts_with c =
    let starts = starts_is Decides-eqb c.args.text.now (codes "#include") c.starts_with.result c.starts_with.ensures.value in
    include_elsewhere c.args.text.now (λ rest is. let yes = starts.1 rest is in let no = c.if-not-starts_with.true in cc)

pub returns-then-not-begins : goal.returns-then-not-begins
returns-then-not-begins c =
    let text = c.args.text.now in
    let behind = drop 8 text in
    let blanks = c.run-blanks.result in
    let starts = starts_is Decides-eqb text (codes "#include") c.starts_with.result c.starts_with.ensures.value in
    let first : text ≡ codes "#include" ++ behind = starts.0 c.if-not-starts_with.false in
    let run = subst (λ b. IsRun class.BlankInLine b blanks) (take_rest text 8) c.run-blanks.ensures in
    include_unquoted text behind blanks first run
    (λ quote. iff_false c.begins.ensures c.if-not-begins.true
    (subst (IsFirstInClass class.Quote) (drop-drop blanks 8 text ∙ sym (take_rest text (8 + blanks))) quote))

pub returns-then-not-begins-2 : goal.returns-then-not-begins-2
returns-then-not-begins-2 c =
    let text = c.args.text.now in
    let behind = drop 8 text in
    let blanks = c.run-blanks.result in
    let count = c.run-count.result in
    let opening = 8 + blanks in
    let rest = drop (opening + 1) text in
    let starts = starts_is Decides-eqb text (codes "#include") c.starts_with.result c.starts_with.ensures.value in
    let first : text ≡ codes "#include" ++ behind = starts.0 c.if-not-starts_with.false in
    let run = subst (λ b. IsRun class.BlankInLine b blanks) (take_rest text 8) c.run-blanks.ensures in
    let open_quote = quote_at text opening (subst (IsFirstInClass class.Quote) (take_rest text opening) (c.begins.ensures.0 c.if-not-begins.false)) in
    let rest_is = take_rest text (opening + 1) in
    let name_run = subst (λ b. IsRun class.NameByte b count) rest_is c.run-count.ensures in
    let behind_is = take_rest (take (length text - (opening + 1)) (drop (opening + 1) text)) count ∙ ap (drop count) rest_is in
    include_open text behind rest blanks count first run (drop-drop blanks 8 text ∙ open_quote) name_run
    (λ quote. iff_false c.begins-2.ensures c.if-not-begins-2.true (subst (IsFirstInClass class.Quote) (sym behind_is) quote))

pub returns : goal.returns
returns c =
    let text = c.args.text.now in
    let behind = drop 8 text in
    let blanks = c.run-blanks.result in
    let count = c.run-count.result in
    let opening = 8 + blanks in
    let rest = drop (opening + 1) text in
    let starts = starts_is Decides-eqb text (codes "#include") c.starts_with.result c.starts_with.ensures.value in
    let first : text ≡ codes "#include" ++ behind = starts.0 c.if-not-starts_with.false in
    let run = subst (λ b. IsRun class.BlankInLine b blanks) (take_rest text 8) c.run-blanks.ensures in
    let open_quote = quote_at text opening (subst (IsFirstInClass class.Quote) (take_rest text opening) (c.begins.ensures.0 c.if-not-begins.false)) in
    let rest_is = take_rest text (opening + 1) in
    let name_run = subst (λ b. IsRun class.NameByte b count) rest_is c.run-count.ensures in
    let behind_is = take_rest (take (length text - (opening + 1)) (drop (opening + 1) text)) count ∙ ap (drop count) rest_is in
    let closed = subst (IsFirstInClass class.Quote) behind_is (c.begins-2.ensures.0 c.if-not-begins-2.false) in
    let (within, quote) = first_after class.Quote rest count closed in
    let whole = included_from text behind rest blanks count first (drop-drop blanks 8 text ∙ open_quote) closed in
    let made : c.in_ok-make.field-0 ≡ take count rest = c.in_ok-make.ensures ∙ ap (take count) rest_is in
    subst (λ (name : List ℕ). IsTokenFront text (record { tok = tok.Include name; length = opening + 1 + count + 1 })) (sym made)
    (include_front text (take blanks behind) (take count rest) (drop (count + 1) rest) (opening + 1 + count + 1) whole run.inside name_run.inside
    (omega (arith, within, length-drop (count + 1) rest, length-drop (opening + 1) text)))
