-- What stands before a token, and that the tests of tokens are those of the rules.
use Rattle.std.proofs.Common.{◌≡◌, ◌<◌, ◌+◌, ℕ, zero, suc, Bool, true, false, List, [], ◌∷◌, ◌++◌, length, get_or, take, drop, map, inl, inr, refl, sym, ap, subst, ◌∙◌, arith, length-append}
use Rattle.std.specs.Prelude.{◌⊎◌, ◌↔◌, ◌&&◌, ◌||◌, not, codes}
use Rattle.std.specs.Str.{bytes_eq}
use Rattle.std.proofs.lemmas.Bool.{and_parts}
use Rattle.std.proofs.lemmas.List.{append_assoc, append-nil, append_cancel_left, map_push, take_at, drop_at, drop_more, take-append-drop, length-take-le}
use Rattle.std.proofs.lemmas.Slice.Eq.{bytes_eq-Decides}
use Rattle.texts.specs.declared.blame.Rule.{Rule}
use Rattle.capl_lexer.specs.Screening.{kinds_of, EndsWith, IsFloatWord, IsFloatingPoint, IsOutsideWord, IsOutsideSign, IsEventName, IsOutsideName, IsOutside, floating_point_rule, outside_rule, BreaksBehind, Breaks}
use Rattle.capl_lexer.specs.Inside.Screening.{IsOther, IsBehind, is_on, behind_name, behind_sign, behind_word, behind_token, is_float_word, is_point, is_floating_point, is_outside_word, is_bracket, is_outside_sign, is_event_name, is_outside_name, is_outside}
use Rattle.capl_lexer.specs.declared.screening.Behind.{Behind}
use Rattle.capl_lexer.specs.declared.screening.Behind.TheVariants as behind
use Rattle.capl_lexer.specs.declared.token.Word.{Word}
use Rattle.capl_lexer.specs.declared.token.Word.TheVariants as word
use Rattle.capl_lexer.specs.declared.token.Sign.{Sign}
use Rattle.capl_lexer.specs.declared.token.Sign.TheVariants as sign
use Rattle.capl_lexer.specs.declared.token.Tok.{Tok}
use Rattle.capl_lexer.specs.declared.token.Tok.TheVariants as tok
use Rattle.capl_lexer.specs.declared.token.Token.{Token}
use Rattle.capl_lexer.proofs.SplitLemmas.{front_injective}

-- one more at the end tells the front and the last
push_parts : (xs ys : List Tok) (x y : Tok) → xs ++ x ∷ [] ≡ ys ++ y ∷ [] → (xs ≡ ys) × (x ≡ y)
push_parts xs ys x y same =
    let lengths : length xs ≡ length ys = omega (arith, ap length same, length-append xs (x ∷ []), length-append ys (y ∷ [])) in
    let fronts : xs ≡ ys = front_injective xs ys (x ∷ []) (y ∷ []) same lengths in
    let tails : x ∷ [] ≡ y ∷ [] = append_cancel_left ys (x ∷ []) (y ∷ []) (ap (λ l. l ++ x ∷ []) (sym fronts) ∙ same) in
    (fronts, cc)

-- nothing ends with a token
ends-nil : (front : List Tok) (last : Tok) → EndsWith [] (front ++ last ∷ []) → ⊥
ends-nil front last (first, is) = absurd (omega (arith, ap length is, length-append first (front ++ last ∷ []), length-append front (last ∷ [])))

-- the last token of what ends with tokens is their last, and what stands before it ends with the others
pub ends-push : (toks front : List Tok) (last other : Tok) → EndsWith (toks ++ last ∷ []) (front ++ other ∷ [])
    → EndsWith toks front × (last ≡ other)
ends-push toks front last other (first, is) =
    let parts = push_parts toks (first ++ front) last other (is ∙ sym (append_assoc first front (other ∷ []))) in
    ((first, parts.0), parts.1)

-- what ends with tokens goes on with one more
push-ends : (toks front : List Tok) (last other : Tok) → EndsWith toks front → last ≡ other
    → EndsWith (toks ++ last ∷ []) (front ++ other ∷ [])
push-ends toks front last other (first, is) same =
    (first, ap (λ l. l ++ last ∷ []) is ∙ append_assoc first front (last ∷ []) ∙ ap (λ t. first ++ (front ++ t ∷ [])) same)

-- any tokens end with none
ends_with_none : (toks : List Tok) → EndsWith toks []
ends_with_none toks = (toks, sym (append-nil toks))

-- tokens that end with one
pub ends_with_one : (toks : List Tok) (last other : Tok) → (EndsWith (toks ++ last ∷ []) (other ∷ []) → last ≡ other)
    × (last ≡ other → EndsWith (toks ++ last ∷ []) (other ∷ []))
ends_with_one toks last other =
    ((λ ends. (ends-push toks [] last other ends).1), (λ same. push-ends toks [] last other (ends_with_none toks) same))

-- the kinds of tokens with one more
pub kinds-push : (tokens rest : List Token) (last : Token) → tokens ≡ rest ++ last ∷ []
    → kinds_of tokens ≡ kinds_of rest ++ last.tok ∷ []
kinds-push tokens rest last is = ap kinds_of is ∙ map_push (λ (token : Token). token.tok) rest last

-- nothing stands before the first token
pub other-nil : IsOther []
other-nil = record {
  no_point = ends-nil [] (tok.Sign sign.Dot);
  no_bracket = ends-nil [] (tok.Sign sign.CloseBracket);
  no_on = ends-nil [] (tok.Word word.On);
  no_key = ends-nil (tok.Word word.On ∷ []) (tok.Name (codes "key"));
}

-- a last token on whose side no rule asks
other-push : (toks : List Tok) (last : Tok) → (last ≡ tok.Sign sign.Dot → ⊥) → (last ≡ tok.Sign sign.CloseBracket → ⊥)
    → (last ≡ tok.Word word.On → ⊥)
    → (EndsWith toks (tok.Word word.On ∷ []) → last ≡ tok.Name (codes "key") → ⊥) → IsOther (toks ++ last ∷ [])
other-push toks last no_point no_bracket no_on no_key = record {
  no_point = λ ends. no_point ((ends_with_one toks last (tok.Sign sign.Dot)).0 ends);
  no_bracket = λ ends. no_bracket ((ends_with_one toks last (tok.Sign sign.CloseBracket)).0 ends);
  no_on = λ ends. no_on ((ends_with_one toks last (tok.Word word.On)).0 ends);
  no_key = λ ends.
      let parts = ends-push toks (tok.Word word.On ∷ []) last (tok.Name (codes "key")) ends in no_key parts.0 parts.1;
}

behind_a_name : (toks : List Tok) (name : List ℕ) (is_key after_on : Bool) → ((is_key ≡ true) ↔ (name ≡ codes "key"))
    → ((after_on ≡ true) ↔ EndsWith toks (tok.Word word.On ∷ []))
    → IsBehind (toks ++ tok.Name name ∷ []) (behind_name (is_key && after_on))
behind_a_name toks name true true is_name on =
    push-ends toks (tok.Word word.On ∷ []) (tok.Name name) (tok.Name (codes "key")) (on.0 refl) (ap tok.Name (is_name.0 refl))
behind_a_name toks name true false is_name on =
    other-push toks (tok.Name name) (λ is. cc) (λ is. cc) (λ is. cc)
    (λ ends is. let wrong = on.1 ends in cc)
behind_a_name toks name false after_on is_name on =
    other-push toks (tok.Name name) (λ is. cc) (λ is. cc) (λ is. cc)
    (λ ends is. let same : name ≡ codes "key" = cc in let wrong = is_name.1 same in cc)

behind_a_sign : (toks : List Tok) (some : Sign) → IsBehind (toks ++ tok.Sign some ∷ []) (behind_sign some)
behind_a_sign toks sign.Dot = (ends_with_one toks (tok.Sign sign.Dot) (tok.Sign sign.Dot)).1 refl
behind_a_sign toks sign.CloseBracket = (ends_with_one toks (tok.Sign sign.CloseBracket) (tok.Sign sign.CloseBracket)).1 refl
behind_a_sign toks some = other-push toks (tok.Sign some) (λ is. cc) (λ is. cc) (λ is. cc) (λ ends is. cc)

behind_a_word : (toks : List Tok) (reserved : Word) → IsBehind (toks ++ tok.Word reserved ∷ []) (behind_word reserved)
behind_a_word toks word.On = (ends_with_one toks (tok.Word word.On) (tok.Word word.On)).1 refl
behind_a_word toks reserved = other-push toks (tok.Word reserved) (λ is. cc) (λ is. cc) (λ is. cc) (λ ends is. cc)

-- how tokens end, by the last one
pub behind_last : (toks : List Tok) (last : Tok) (after_on : Bool) → ((after_on ≡ true) ↔ EndsWith toks (tok.Word word.On ∷ []))
    → IsBehind (toks ++ last ∷ []) (behind_token last after_on)
behind_last toks (tok.Name name) after_on on =
    behind_a_name toks name (bytes_eq name (codes "key")) after_on (bytes_eq-Decides name (codes "key")) on
behind_last toks (tok.Word reserved) after_on on = behind_a_word toks reserved
behind_last toks (tok.Sign some) after_on on = behind_a_sign toks some
behind_last toks last after_on on = other-push toks last (λ is. cc) (λ is. cc) (λ is. cc) (λ ends is. cc)

-- whether the last token is `on`
pub on_is : (last : Tok) → (is_on last ≡ true) ↔ (last ≡ tok.Word word.On)
on_is (tok.Word word.On) = ((λ yes. refl), (λ is. refl))
on_is _ = ((λ no. cc), (λ is. cc))

-- only one token stands last
one_last : (toks first second : List Tok) (one other : Tok) → EndsWith toks (first ++ one ∷ [])
    → EndsWith toks (second ++ other ∷ []) → one ≡ other
one_last toks first second one other (before, is) (others, also) =
    (push_parts (before ++ first) (others ++ second) one other
    (append_assoc before first (one ∷ []) ∙ sym is ∙ also ∙ sym (append_assoc others second (other ∷ [])))).1

-- the token that stands last, where a rule asks for it
points : (before : List Tok) (place : Behind) → IsBehind before place → (is_point place ≡ true) ↔ EndsWith before (tok.Sign sign.Dot ∷ [])
points before behind.Point is = ((λ yes. is), (λ ends. refl))
points before behind.Bracket is = ((λ no. cc), (λ ends. let same = one_last before [] [] (tok.Sign sign.CloseBracket) (tok.Sign sign.Dot) is ends in cc))
points before behind.On is = ((λ no. cc), (λ ends. let same = one_last before [] [] (tok.Word word.On) (tok.Sign sign.Dot) is ends in cc))
points before behind.OnKey is = ((λ no. cc), (λ ends. let same = one_last before (tok.Word word.On ∷ []) [] (tok.Name (codes "key")) (tok.Sign sign.Dot) is ends in cc))
points before behind.Other is = ((λ no. cc), (λ ends. absurd (is.no_point ends)))

brackets : (before : List Tok) (place : Behind) → IsBehind before place → (is_bracket place ≡ true) ↔ EndsWith before (tok.Sign sign.CloseBracket ∷ [])
brackets before behind.Bracket is = ((λ yes. is), (λ ends. refl))
brackets before behind.Point is = ((λ no. cc), (λ ends. let same = one_last before [] [] (tok.Sign sign.Dot) (tok.Sign sign.CloseBracket) is ends in cc))
brackets before behind.On is = ((λ no. cc), (λ ends. let same = one_last before [] [] (tok.Word word.On) (tok.Sign sign.CloseBracket) is ends in cc))
brackets before behind.OnKey is = ((λ no. cc), (λ ends. let same = one_last before (tok.Word word.On ∷ []) [] (tok.Name (codes "key")) (tok.Sign sign.CloseBracket) is ends in cc))
brackets before behind.Other is = ((λ no. cc), (λ ends. absurd (is.no_bracket ends)))

float_words : (reserved : Word) → (is_float_word reserved ≡ true) ↔ IsFloatWord reserved
float_words word.Float = ((λ yes. tt), (λ is. refl))
float_words word.Double = ((λ yes. tt), (λ is. refl))
float_words _ = ((λ no. cc), (λ is. absurd is))

both : (a b : Bool) (A B : Type 0) → ((a ≡ true) ↔ A) → ((b ≡ true) ↔ B) → ((a && b) ≡ true) ↔ (B × A)
both true b A B first second = ((λ yes. (second.0 yes, first.0 refl)), (λ is. second.1 is.0))
both false b A B first second = ((λ no. cc), (λ is. let wrong = first.1 is.1 in cc))

-- the test of floating point is that of the rule
pub floating_points : (before : List Tok) (place : Behind) → IsBehind before place → (token : Tok)
    → (is_floating_point place token ≡ true) ↔ IsFloatingPoint before token
floating_points before place is (tok.Word reserved) = float_words reserved
floating_points before place is tok.Float = ((λ yes. tt), (λ also. refl))
floating_points before place is (tok.Name name) =
    both (is_point place) (bytes_eq name (codes "phys")) (EndsWith before (tok.Sign sign.Dot ∷ [])) (name ≡ codes "phys")
    (points before place is) (bytes_eq-Decides name (codes "phys"))
floating_points before place is _ = ((λ no. cc), (λ also. absurd also))

outside_words : (reserved : Word) → (is_outside_word reserved ≡ true) ↔ IsOutsideWord reserved
outside_words word.Struct = ((λ yes. tt), (λ is. refl))
outside_words word.Enum = ((λ yes. tt), (λ is. refl))
outside_words word.Stack = ((λ yes. tt), (λ is. refl))
outside_words word.Testcase = ((λ yes. tt), (λ is. refl))
outside_words word.Testfunction = ((λ yes. tt), (λ is. refl))
outside_words word.DiagRequest = ((λ yes. tt), (λ is. refl))
outside_words word.DiagResponse = ((λ yes. tt), (λ is. refl))
outside_words word.LinFrame = ((λ yes. tt), (λ is. refl))
outside_words word.FrFrame = ((λ yes. tt), (λ is. refl))
outside_words word.EthernetPacket = ((λ yes. tt), (λ is. refl))
outside_words _ = ((λ no. cc), (λ is. absurd is))

outside_signs : (before : List Tok) (place : Behind) → IsBehind before place → (some : Sign)
    → (is_outside_sign place some ≡ true) ↔ IsOutsideSign before some
outside_signs before place is sign.Dollar = ((λ yes. tt), (λ also. refl))
outside_signs before place is sign.At = ((λ yes. tt), (λ also. refl))
outside_signs before place is sign.Scope = ((λ yes. tt), (λ also. refl))
outside_signs before place is sign.OpenBracket = brackets before place is
outside_signs before place is _ = ((λ no. cc), (λ also. absurd also))

either4 : (a b c d : Bool) (A B C D : Type 0) → ((a ≡ true) ↔ A) → ((b ≡ true) ↔ B) → ((c ≡ true) ↔ C) → ((d ≡ true) ↔ D)
    → ((a || b || c || d) ≡ true) ↔ (A ⊎ B ⊎ C ⊎ D)
either4 true b c d A B C D one two three four = ((λ yes. inl (one.0 refl)), (λ is. refl))
either4 false true c d A B C D one two three four = ((λ yes. inr (inl (two.0 refl))), (λ is. refl))
either4 false false true d A B C D one two three four = ((λ yes. inr (inr (inl (three.0 refl)))), (λ is. refl))
either4 false false false d A B C D one two three four = (
  (λ yes. inr (inr (inr (four.0 yes)))),
  (λ is. elim is [
    | inl a ↦ let wrong = one.1 a in cc
    | inr (inl b) ↦ let wrong = two.1 b in cc
    | inr (inr (inl c)) ↦ let wrong = three.1 c in cc
    | inr (inr (inr d)) ↦ four.1 d
  ]),
)

event_names : (name : List ℕ) → (is_event_name name ≡ true) ↔ IsEventName name
event_names name =
    either4 (bytes_eq name (codes "preStart")) (bytes_eq name (codes "start")) (bytes_eq name (codes "stopMeasurement")) (bytes_eq name (codes "key"))
    (name ≡ codes "preStart") (name ≡ codes "start") (name ≡ codes "stopMeasurement") (name ≡ codes "key")
    (bytes_eq-Decides name (codes "preStart")) (bytes_eq-Decides name (codes "start")) (bytes_eq-Decides name (codes "stopMeasurement")) (bytes_eq-Decides name (codes "key"))

on_names : (before : List Tok) (name : List ℕ) (is_event : Bool) → ((is_event ≡ true) ↔ IsEventName name)
    → EndsWith before (tok.Word word.On ∷ []) → (not is_event ≡ true) ↔ IsOutsideName before name
on_names before name true event on = (
  (λ no. cc),
  (λ also. elim also [
    | inl outside ↦ absurd (outside.1 (event.0 refl))
    | inr key ↦ let same = one_last before [] (tok.Word word.On ∷ []) (tok.Word word.On) (tok.Name (codes "key")) on key in cc
  ]),
)
on_names before name false event on = ((λ yes. inl (on, λ is. let wrong = event.1 is in cc)), (λ also. refl))

-- the test of a name is that of the rule
outside_names : (before : List Tok) (place : Behind) → IsBehind before place → (name : List ℕ)
    → (is_outside_name place name ≡ true) ↔ IsOutsideName before name
outside_names before behind.On is name = on_names before name (is_event_name name) (event_names name) is
outside_names before behind.OnKey is name = ((λ yes. inr is), (λ also. refl))
outside_names before behind.Point is name = (
  (λ no. cc),
  (λ also. absurd (elim also [
    | inl on ↦ let same = one_last before [] [] (tok.Sign sign.Dot) (tok.Word word.On) is on.0 in cc
    | inr key ↦ let same = one_last before [] (tok.Word word.On ∷ []) (tok.Sign sign.Dot) (tok.Name (codes "key")) is key in cc
  ])),
)
outside_names before behind.Bracket is name = (
  (λ no. cc),
  (λ also. absurd (elim also [
    | inl on ↦ let same = one_last before [] [] (tok.Sign sign.CloseBracket) (tok.Word word.On) is on.0 in cc
    | inr key ↦ let same = one_last before [] (tok.Word word.On ∷ []) (tok.Sign sign.CloseBracket) (tok.Name (codes "key")) is key in cc
  ])),
)
outside_names before behind.Other is name = (
  (λ no. cc),
  (λ also. absurd (elim also [
    | inl on ↦ is.no_on on.0
    | inr key ↦ is.no_key key
  ])),
)

-- the test of what else is outside is that of the rule
pub outsides : (before : List Tok) (place : Behind) → IsBehind before place → (token : Tok)
    → (is_outside place token ≡ true) ↔ IsOutside before token
outsides before place is (tok.Word reserved) = outside_words reserved
outsides before place is (tok.Sign some) = outside_signs before place is some
outsides before place is tok.Directive = ((λ yes. tt), (λ also. refl))
outsides before place is (tok.Name name) = outside_names before place is name
outsides before place is _ = ((λ no. cc), (λ also. absurd also))

-- no rule is broken where both tests fail
pub breaks_none : (before : List Tok) (place : Behind) → IsBehind before place → (token : Tok)
    → is_floating_point place token ≡ false → is_outside place token ≡ false → (rule : Rule) → BreaksBehind before token rule → ⊥
breaks_none before place is token no_floating no_outside rule (inl (rule_is, floating)) =
    let yes = (floating_points before place is token).1 floating in let wrong : true ≡ false = sym yes ∙ no_floating in cc
breaks_none before place is token no_floating no_outside rule (inr (rule_is, outside)) =
    let yes = (outsides before place is token).1 outside in let wrong : true ≡ false = sym yes ∙ no_outside in cc

-- the tokens before a place and the token there
pub breaks_at : (tokens : List Token) (place : ℕ) (token : Token) (rule : Rule) → place < length tokens
    → token ≡ get_or tokens place token → BreaksBehind (kinds_of (take place tokens)) token.tok rule → Breaks tokens place rule
breaks_at tokens place token rule within is breaks = record {
  before = take place tokens;
  token = token;
  after = drop (place + 1) tokens;
  split = sym (take-append-drop place tokens) ∙ ap (λ t. take place tokens ++ t)
      (drop_more tokens place token within ∙ ap (λ (t : Token). t ∷ drop (place + 1) tokens) (sym is));
  at = sym (length-take-le place tokens (omega arith));
  breaks = breaks;
}

-- what breaks a rule is one of the tokens
pub breaks-within : (tokens : List Token) (place : ℕ) (rule : Rule) → Breaks tokens place rule → place < length tokens
breaks-within tokens place rule breaks =
    omega (arith, breaks.at, ap length breaks.split, length-append breaks.before (breaks.token ∷ breaks.after))

-- what breaks a rule at a place is the token there, behind those before it
pub breaks-parts : (tokens : List Token) (place : ℕ) (rule : Rule) (token : Token) → Breaks tokens place rule
    → token ≡ get_or tokens place token
    → (place < length tokens) × BreaksBehind (kinds_of (take place tokens)) token.tok rule
breaks-parts tokens place rule token breaks is =
    let within = breaks-within tokens place rule breaks in
    let front : take place tokens ≡ breaks.before =
    ap (take place) breaks.split ∙ take_at breaks.before (breaks.token ∷ breaks.after) place (sym breaks.at) in
    let rest : drop place tokens ≡ breaks.token ∷ breaks.after =
    ap (drop place) breaks.split ∙ drop_at breaks.before (breaks.token ∷ breaks.after) place (sym breaks.at) in
    let tails : get_or tokens place token ∷ drop (place + 1) tokens ≡ breaks.token ∷ breaks.after = sym (drop_more tokens place token within) ∙ rest in
    let same : breaks.token ≡ token = cc in (
      within,
      subst (λ (t : Token). BreaksBehind (kinds_of (take place tokens)) t.tok rule) same
          (subst (λ (b : List Token). BreaksBehind (kinds_of b) breaks.token.tok rule) (sym front) breaks.breaks),
    )
