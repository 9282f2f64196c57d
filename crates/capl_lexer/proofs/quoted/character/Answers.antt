-- An item between two apostrophes is a character.
use Rattle.std.proofs.Common.{◌≡◌, ◌+◌, ◌-◌, ℕ, List, [], ◌∷◌, length, take, drop, get_or, ap, ◌∙◌, sym, subst, arith, length-drop}
use Rattle.std.proofs.lemmas.Bool.{iff_false}
use Rattle.std.proofs.lemmas.List.{take_rest, drop-drop, drop_more}
use Rattle.capl_lexer.specs.Spelling.{IsItem, IsPlainInChar}
use Rattle.capl_lexer.specs.Inside.ByteClass.{IsFirstInClass}
use Rattle.capl_lexer.specs.Inside.Item.{HasNoItem, IsItemFront}
use Rattle.capl_lexer.specs.declared.byte_class.ByteClass.TheVariants as class
use Rattle.capl_lexer.proofs.FrontLemmas.{first_after}
use Rattle.capl_lexer.proofs.QuotedFronts.{char_none, char_open, char_front}
use Rattle.capl_lexer.proofs.quoted.character.Goals as goal

-- a text that begins with an apostrophe
opened : (text : List ℕ) → IsFirstInClass class.Apostrophe text → text ≡ 39 ∷ drop 1 text
opened [] none = absurd none
opened (byte ∷ text) is = ap (λ b. b ∷ text) is

pub returns-in_err-item : goal.returns-in_err-item
returns-in_err-item c =
    let text = c.args.text.now in
    rw c.from_residual.ensures
    (char_none text (drop 1 text) (opened text c.requires) (subst (HasNoItem class.PlainInChar) (take_rest text 1) c.in_err-item.ensures))

pub returns-then-not-begins : goal.returns-then-not-begins
returns-then-not-begins c =
    let text = c.args.text.now in
    let item = c.in_ok-item.item in
    let front = subst (λ t. IsItemFront class.PlainInChar t item) (take_rest text 1) c.in_ok-item.ensures in
    let rest = drop (1 + item.length) text in
    let is : IsItem IsPlainInChar item.value (drop 1 text) rest =
    subst (IsItem IsPlainInChar item.value (drop 1 text)) (drop-drop item.length 1 text) front.is in
    char_open text (drop 1 text) rest item.value (opened text c.requires) is
    (λ closed. iff_false c.begins.ensures c.if-not-begins.true (subst (IsFirstInClass class.Apostrophe) (sym (take_rest text (1 + item.length))) closed))

pub returns : goal.returns
returns c =
    let text = c.args.text.now in
    let item = c.in_ok-item.item in
    let front = subst (λ t. IsItemFront class.PlainInChar t item) (take_rest text 1) c.in_ok-item.ensures in
    let place = 1 + item.length in
    let (within, closing) = first_after class.Apostrophe text place (subst (IsFirstInClass class.Apostrophe) (take_rest text place) (c.begins.ensures.0 c.if-not-begins.false)) in
    let last : drop place text ≡ 39 ∷ drop (place + 1) text = drop_more text place 0 within ∙ ap (λ b. b ∷ drop (place + 1) text) closing in
    let is : IsItem IsPlainInChar item.value (drop 1 text) (39 ∷ drop (place + 1) text) =
    subst (IsItem IsPlainInChar item.value (drop 1 text)) (drop-drop item.length 1 text ∙ last) front.is in
    char_front text (drop 1 text) (drop (place + 1) text) item.value (place + 1) (opened text c.requires) is
    (omega (arith, length-drop (place + 1) text, within))
