-- Item after item is read, up to a quote or to what is no item.
use Rattle.std.proofs.Common.{◌≡◌, ◌≤◌, ◌+◌, ◌-◌, ◌++◌, ℕ, List, [], ◌∷◌, length, take, drop, get_or, Option, MatchOption, ap, ◌∙◌, sym, subst, arith, length-drop}
use Rattle.std.proofs.lemmas.Bool.{iff_false}
use Rattle.std.proofs.lemmas.List.{take_rest, drop-drop, drop_more}
use Rattle.capl_lexer.specs.Spelling.{IsItem, AreItems, IsPlain}
use Rattle.capl_lexer.specs.Inside.ByteClass.{IsFirstInClass}
use Rattle.capl_lexer.specs.Inside.Front.{IsTokenFront}
use Rattle.capl_lexer.specs.Inside.Item.{HasNoItem, IsItemFront}
use Rattle.capl_lexer.specs.declared.byte_class.ByteClass.TheVariants as class
use Rattle.capl_lexer.specs.declared.quoted.Item.{Item}
use Rattle.capl_lexer.specs.declared.token.Tok.TheVariants as tok
use Rattle.capl_lexer.proofs.FrontLemmas.{first_after}
use Rattle.capl_lexer.proofs.ItemLemmas.{items-push}
use Rattle.capl_lexer.proofs.QuotedFronts.{string_none, string_front}
use Rattle.capl_lexer.proofs.quoted.string.Goals as goal

-- a text that begins with a quote
quoted : (text : List ℕ) → IsFirstInClass class.Quote text → text ≡ 34 ∷ drop 1 text
quoted [] none = absurd none
quoted (byte ∷ text) is = ap (λ b. b ∷ text) is

pub returns-in_default : goal.returns-in_default
returns-in_default c =
    let text = c.args.text.now in
    let place = c.loop-item.place in
    let none = subst (λ (found : Option Item). MatchOption found (HasNoItem class.Plain (take (length text - place) (drop place text))) (IsItemFront class.Plain (take (length text - place) (drop place text)))) c.in_default.is c.item_front.ensures in
    string_none text (drop 1 text) (drop place text) c.loop-item.values.items (quoted text c.requires) c.loop-item.invariant.items
    (subst (HasNoItem class.Plain) (take_rest text place) none)
    (λ quote. iff_false c.begins.ensures c.loop-item-test.true (subst (IsFirstInClass class.Quote) (sym (take_rest text place)) quote))

pub loop-item-preserved : goal.loop-item-preserved
loop-item-preserved c =
    let text = c.args.text.now in
    let place = c.loop-item.place in
    let item = c.in-Some.item in
    let found = subst (λ (found : Option Item). MatchOption found (HasNoItem class.Plain (take (length text - place) (drop place text))) (IsItemFront class.Plain (take (length text - place) (drop place text)))) c.in-Some.is c.item_front.ensures in
    let front = subst (λ t. IsItemFront class.Plain t item) (take_rest text place) found in
    let is : IsItem IsPlain item.value (drop place text) (drop (place + item.length) text) =
    subst (IsItem IsPlain item.value (drop place text)) (drop-drop item.length place text) front.is in
    record {
      from = let from = c.loop-item.invariant.from in omega arith;
      within = let within = c.loop-item.invariant.within in omega (arith, front.within, length-drop place text);
      items = subst (λ values. AreItems values (drop 1 text) (drop (place + item.length) text)) (sym c.in_ok-push.ensures.items)
          (items-push c.loop-item.values.items (drop 1 text) (drop place text) (drop (place + item.length) text) item.value c.loop-item.invariant.items is);
    }

pub returns : goal.returns
returns c =
    let text = c.args.text.now in
    let place = c.loop-item.place in
    let values = c.loop-item.values.items in
    let (within, closing) = first_after class.Quote text place (subst (IsFirstInClass class.Quote) (take_rest text place) (c.begins.ensures.0 c.loop-item-test.false)) in
    let last : drop place text ≡ 34 ∷ drop (place + 1) text = drop_more text place 0 within ∙ ap (λ b. b ∷ drop (place + 1) text) closing in
    let items : AreItems values (drop 1 text) (34 ∷ drop (place + 1) text) = subst (AreItems values (drop 1 text)) last c.loop-item.invariant.items in
    let made : c.in_ok-from_list.field-0 ≡ values = c.in_ok-from_list.ensures in
    subst (λ (content : List ℕ). IsTokenFront text (record { tok = tok.Str content; length = place + 1 })) (sym made)
    (string_front text (drop 1 text) (drop (place + 1) text) values (place + 1) (quoted text c.requires) items
    (omega (arith, length-drop (place + 1) text, within)))
