-- Tokens break no rule of the profile, or one of them is the first that does.
use Rattle.std.proofs.Common.{◌≡◌, ◌<◌, ℕ, Bool, true, false, List, [], ◌∷◌, ◌++◌, length, inl, inr, refl, ap, ◌∙◌, arith}
use Rattle.std.specs.Prelude.{◌⊎◌, codes}
use Rattle.std.specs.Str.{bytes_eq}
use Rattle.std.proofs.lemmas.Bool.{false≢true}
use Rattle.std.proofs.lemmas.Slice.Eq.{bytes_eq-Decides}
use Rattle.texts.specs.declared.blame.Rule.{Rule}
use Rattle.capl_lexer.specs.Screening.{kinds_of, EndsWith, IsFloatWord, IsFloatingPoint, IsOutsideWord, IsOutsideSign, IsEventName, IsOutsideName, IsOutside, BreaksBehind, Breaks, floating_point_rule, outside_rule}
use Rattle.capl_lexer.specs.declared.token.Word.{Word}
use Rattle.capl_lexer.specs.declared.token.Word.TheVariants as word
use Rattle.capl_lexer.specs.declared.token.Sign.{Sign}
use Rattle.capl_lexer.specs.declared.token.Sign.TheVariants as sign
use Rattle.capl_lexer.specs.declared.token.Tok.{Tok}
use Rattle.capl_lexer.specs.declared.token.Tok.TheVariants as tok
use Rattle.capl_lexer.specs.declared.token.Token.{Token}
use Rattle.whole_readings.proofs.Known.{Known, known_by, known_both, known_either, known_not, known_text, known_told, known_split, first_split, HasFirstSplit, HasNoSplit}

-- ---- the tokens that a rule asks for

abbrev is_dot : Tok → Bool
is_dot (tok.Sign sign.Dot) = true
is_dot _ = false

abbrev is_bracket : Tok → Bool
is_bracket (tok.Sign sign.CloseBracket) = true
is_bracket _ = false

abbrev is_on : Tok → Bool
is_on (tok.Word word.On) = true
is_on _ = false

abbrev is_key : Tok → Bool
is_key (tok.Name name) = bytes_eq name (codes "key")
is_key _ = false

dot_told : (t : Tok) → is_dot t ≡ true → t ≡ tok.Sign sign.Dot
dot_told (tok.Sign sign.Dot) is = refl
dot_told _ is = absurd (false≢true is)

bracket_told : (t : Tok) → is_bracket t ≡ true → t ≡ tok.Sign sign.CloseBracket
bracket_told (tok.Sign sign.CloseBracket) is = refl
bracket_told _ is = absurd (false≢true is)

on_told : (t : Tok) → is_on t ≡ true → t ≡ tok.Word word.On
on_told (tok.Word word.On) is = refl
on_told _ is = absurd (false≢true is)

key_told : (t : Tok) → is_key t ≡ true → t ≡ tok.Name (codes "key")
key_told (tok.Name name) is = ap tok.Name ((bytes_eq-Decides name (codes "key")).0 is)
key_told _ is = absurd (false≢true is)

known_dot : (t : Tok) → Known (t ≡ tok.Sign sign.Dot)
known_dot t = known_told (is_dot t) (dot_told t, λ same. ap is_dot same)

known_bracket : (t : Tok) → Known (t ≡ tok.Sign sign.CloseBracket)
known_bracket t = known_told (is_bracket t) (bracket_told t, λ same. ap is_bracket same)

known_on : (t : Tok) → Known (t ≡ tok.Word word.On)
known_on t = known_told (is_on t) (on_told t, λ same. ap is_on same)

known_key : (t : Tok) → Known (t ≡ tok.Name (codes "key"))
known_key t = known_told (is_key t) (key_told t, λ same. ap is_key same)

first_of : {X : Type 0} → X → List X → X
first_of d [] = d
first_of d (x ∷ xs) = x

second_of : {X : Type 0} → X → List X → X
second_of d [] = d
second_of d (x ∷ xs) = first_of d xs

-- whether tokens are this one alone, or these two
known_one : (last : Tok) → ((t : Tok) → Known (t ≡ last)) → (ts : List Tok) → Known (ts ≡ last ∷ [])
unfolding first_of
known_one last known [] = inr (λ same. let long = ap length same in omega (arith, long))
known_one last known (t ∷ []) = known_by (λ is. ap (λ s. s ∷ []) is) (λ same. ap (λ l. first_of t l) same) (known t)
known_one last known (t ∷ next ∷ ts) = inr (λ same. let long = ap length same in omega (arith, long))

known_two : (one last : Tok) → ((t : Tok) → Known (t ≡ one)) → ((t : Tok) → Known (t ≡ last)) → (ts : List Tok) → Known (ts ≡ one ∷ last ∷ [])
unfolding first_of second_of
known_two one last known also [] = inr (λ same. let long = ap length same in omega (arith, long))
known_two one last known also (t ∷ []) = inr (λ same. let long = ap length same in omega (arith, long))
known_two one last known also (t ∷ next ∷ []) =
    known_by (λ both. ap (λ s. s ∷ next ∷ []) both.0 ∙ ap (λ s. one ∷ s ∷ []) both.1)
    (λ same. (ap (λ l. first_of t l) same, ap (λ l. second_of t l) same)) (known_both (known t) (also next))
known_two one last known also (t ∷ next ∷ third ∷ ts) = inr (λ same. let long = ap length same in omega (arith, long))

abbrev IsEnd : List Tok → List Tok → List Tok → Type 0
IsEnd last front behind = behind ≡ last

known_ends : (last : List Tok) → ((ts : List Tok) → Known (ts ≡ last)) → (ts : List Tok) → Known (EndsWith ts last)
known_ends last known ts =
    known_by (λ split. (split.0, split.2 ∙ ap (λ l. split.0 ++ l) split.3)) (λ ends. (ends.0, last, ends.1, refl))
    (known_split (IsEnd last) ts (λ front behind split. known behind))

-- ---- the rules

known_float_word : (some : Word) → Known (IsFloatWord some)
known_float_word word.Float = inl tt
known_float_word word.Double = inl tt
known_float_word _ = inr (λ none. none)

known_floating : (before : List Tok) (t : Tok) → Known (IsFloatingPoint before t)
known_floating before (tok.Word some) = known_float_word some
known_floating before tok.Float = inl tt
known_floating before (tok.Name name) =
    known_both (known_text name (codes "phys")) (known_ends (tok.Sign sign.Dot ∷ []) (known_one (tok.Sign sign.Dot) known_dot) before)
known_floating before _ = inr (λ none. none)

known_outside_word : (some : Word) → Known (IsOutsideWord some)
known_outside_word word.Struct = inl tt
known_outside_word word.Enum = inl tt
known_outside_word word.Stack = inl tt
known_outside_word word.Testcase = inl tt
known_outside_word word.Testfunction = inl tt
known_outside_word word.DiagRequest = inl tt
known_outside_word word.DiagResponse = inl tt
known_outside_word word.LinFrame = inl tt
known_outside_word word.FrFrame = inl tt
known_outside_word word.EthernetPacket = inl tt
known_outside_word _ = inr (λ none. none)

known_outside_sign : (before : List Tok) (some : Sign) → Known (IsOutsideSign before some)
known_outside_sign before sign.Dollar = inl tt
known_outside_sign before sign.At = inl tt
known_outside_sign before sign.Scope = inl tt
known_outside_sign before sign.OpenBracket = known_ends (tok.Sign sign.CloseBracket ∷ []) (known_one (tok.Sign sign.CloseBracket) known_bracket) before
known_outside_sign before _ = inr (λ none. none)

known_event_name : (name : List ℕ) → Known (IsEventName name)
known_event_name name =
    known_either (known_text name (codes "preStart")) (known_either (known_text name (codes "start"))
    (known_either (known_text name (codes "stopMeasurement")) (known_text name (codes "key"))))

known_outside_name : (before : List Tok) (name : List ℕ) → Known (IsOutsideName before name)
known_outside_name before name =
    known_either (known_both (known_ends (tok.Word word.On ∷ []) (known_one (tok.Word word.On) known_on) before) (known_not (known_event_name name)))
    (known_ends (tok.Word word.On ∷ tok.Name (codes "key") ∷ []) (known_two (tok.Word word.On) (tok.Name (codes "key")) known_on known_key) before)

known_outside : (before : List Tok) (t : Tok) → Known (IsOutside before t)
known_outside before (tok.Word some) = known_outside_word some
known_outside before (tok.Sign some) = known_outside_sign before some
known_outside before tok.Directive = inl tt
known_outside before (tok.Name name) = known_outside_name before name
known_outside before _ = inr (λ none. none)

abbrev BreaksAny : List Tok → Tok → Type 0
BreaksAny before t = (rule : Rule) × BreaksBehind before t rule

breaks_there : (before : List Tok) (t : Tok) → IsFloatingPoint before t ⊎ IsOutside before t → BreaksAny before t
breaks_there before t (inl floating) = (floating_point_rule, inl (refl, floating))
breaks_there before t (inr outside) = (outside_rule, inr (refl, outside))

breaks_back : (before : List Tok) (t : Tok) → BreaksAny before t → IsFloatingPoint before t ⊎ IsOutside before t
breaks_back before t (rule, inl (is, floating)) = inl floating
breaks_back before t (rule, inr (is, outside)) = inr outside

known_breaks : (before : List Tok) (t : Tok) → Known (BreaksAny before t)
known_breaks before t = known_by (breaks_there before t) (breaks_back before t) (known_either (known_floating before t) (known_outside before t))

-- ---- the first token that breaks one

abbrev BreaksHere : List Token → List Token → Type 0
BreaksHere before [] = ⊥
BreaksHere before (token ∷ after) = BreaksAny (kinds_of before) token.tok

known_here : (before behind : List Token) → Known (BreaksHere before behind)
known_here before [] = inr (λ none. none)
known_here before (token ∷ after) = known_breaks (kinds_of before) token.tok

-- no token breaks a rule
abbrev pub BreakNone : List Token → Type 0
BreakNone tokens = (place : ℕ) (rule : Rule) → Breaks tokens place rule → ⊥

-- the first that breaks one
abbrev pub HasFirstBreak : List Token → Type 0
HasFirstBreak tokens =
    (place : ℕ) × (rule : Rule) × Breaks tokens place rule
    × ((earlier : ℕ) (other : Rule) → earlier < place → Breaks tokens earlier other → ⊥)

break_from : (tokens : List Token) → HasFirstSplit BreaksHere tokens ⊎ HasNoSplit BreaksHere tokens → BreakNone tokens ⊎ HasFirstBreak tokens
break_from tokens (inl (before, [], is)) = absurd is.holds
break_from tokens (inl (before, token ∷ after, is)) =
    let rule = is.holds in
    inr (
      length before,
      rule.0,
      record { before = before; token = token; after = after; split = is.split; at = refl; breaks = rule.1 },
      (λ earlier other low breaks. let least = is.first breaks.before (breaks.token ∷ breaks.after) breaks.split (other, breaks.breaks) in let at = breaks.at in omega (arith, least, at, low)),
    )
break_from tokens (inr none) = inl (λ place rule breaks. none breaks.before (breaks.token ∷ breaks.after) breaks.split (rule, breaks.breaks))

-- tokens break no rule, or one is the first that does
pub none_or_first_break : (tokens : List Token) → BreakNone tokens ⊎ HasFirstBreak tokens
none_or_first_break tokens = break_from tokens (first_split BreaksHere tokens (λ before behind split. known_here before behind))
