-- What stands before a token, and the tests of tokens behind it.
use Rattle.std.specs.Prelude.{◌≡◌, ℕ, Bool, true, false, not, List, [], ◌∷◌, ◌||◌, ◌&&◌, codes}
use Rattle.std.specs.Str.{bytes_eq}
use Rattle.capl_lexer.specs.Screening.{EndsWith}
use Rattle.capl_lexer.specs.declared.token.Word.{Word}
use Rattle.capl_lexer.specs.declared.token.Word.TheVariants as word
use Rattle.capl_lexer.specs.declared.token.Sign.{Sign}
use Rattle.capl_lexer.specs.declared.token.Sign.TheVariants as sign
use Rattle.capl_lexer.specs.declared.token.Tok.{Tok}
use Rattle.capl_lexer.specs.declared.token.Tok.TheVariants as tok
use Rattle.capl_lexer.specs.declared.screening.Behind.{Behind}
use Rattle.capl_lexer.specs.declared.screening.Behind.TheVariants as behind

-- no token on whose side a rule asks stands last
pub record IsOther (before : List Tok) : Type 0 where
  pub no_point : EndsWith before (tok.Sign sign.Dot ∷ []) → ⊥
  pub no_bracket : EndsWith before (tok.Sign sign.CloseBracket ∷ []) → ⊥
  pub no_on : EndsWith before (tok.Word word.On ∷ []) → ⊥
  pub no_key : EndsWith before (tok.Word word.On ∷ tok.Name (codes "key") ∷ []) → ⊥

-- the tokens before a token end so
abbrev pub IsBehind : List Tok → Behind → Type 0
IsBehind before behind.Point = EndsWith before (tok.Sign sign.Dot ∷ [])
IsBehind before behind.Bracket = EndsWith before (tok.Sign sign.CloseBracket ∷ [])
IsBehind before behind.On = EndsWith before (tok.Word word.On ∷ [])
IsBehind before behind.OnKey = EndsWith before (tok.Word word.On ∷ tok.Name (codes "key") ∷ [])
IsBehind before behind.Other = IsOther before

-- whether the token is `on`
abbrev pub is_on : Tok → Bool
is_on (tok.Word word.On) = true
is_on _ = false

-- what a last token makes of those before a token, where `on` stands before it or not
abbrev pub behind_name : Bool → Behind
behind_name true = behind.OnKey
behind_name false = behind.Other

-- what a sign makes of them
abbrev pub behind_sign : Sign → Behind
behind_sign sign.Dot = behind.Point
behind_sign sign.CloseBracket = behind.Bracket
behind_sign _ = behind.Other

-- what a reserved word makes of them
abbrev pub behind_word : Word → Behind
behind_word word.On = behind.On
behind_word _ = behind.Other

-- what a token makes of them
abbrev pub behind_token : Tok → Bool → Behind
behind_token (tok.Sign mark) after_on = behind_sign mark
behind_token (tok.Word reserved) after_on = behind_word reserved
behind_token (tok.Name name) after_on = behind_name (bytes_eq name (codes "key") && after_on)
behind_token _ after_on = behind.Other

-- whether the reserved word is of floating point
abbrev pub is_float_word : Word → Bool
is_float_word word.Float = true
is_float_word word.Double = true
is_float_word _ = false

-- whether a `.` stands before
abbrev pub is_point : Behind → Bool
is_point behind.Point = true
is_point _ = false

-- whether the token is floating point there
abbrev pub is_floating_point : Behind → Tok → Bool
is_floating_point place (tok.Word reserved) = is_float_word reserved
is_floating_point place tok.Float = true
is_floating_point place (tok.Name name) = is_point place && bytes_eq name (codes "phys")
is_floating_point place _ = false

-- whether the profile leaves out the reserved word
abbrev pub is_outside_word : Word → Bool
is_outside_word word.Struct = true
is_outside_word word.Enum = true
is_outside_word word.Stack = true
is_outside_word word.Testcase = true
is_outside_word word.Testfunction = true
is_outside_word word.DiagRequest = true
is_outside_word word.DiagResponse = true
is_outside_word word.LinFrame = true
is_outside_word word.FrFrame = true
is_outside_word word.EthernetPacket = true
is_outside_word _ = false

-- whether a `]` stands before
abbrev pub is_bracket : Behind → Bool
is_bracket behind.Bracket = true
is_bracket _ = false

-- whether it leaves out the sign there
abbrev pub is_outside_sign : Behind → Sign → Bool
is_outside_sign place sign.Dollar = true
is_outside_sign place sign.At = true
is_outside_sign place sign.Scope = true
is_outside_sign place sign.OpenBracket = is_bracket place
is_outside_sign place _ = false

-- whether the name is one of an event procedure
abbrev pub is_event_name : List ℕ → Bool
is_event_name name =
    bytes_eq name (codes "preStart") || bytes_eq name (codes "start")
    || bytes_eq name (codes "stopMeasurement") || bytes_eq name (codes "key")

-- whether the name is outside there
abbrev pub is_outside_name : Behind → List ℕ → Bool
is_outside_name behind.On name = not (is_event_name name)
is_outside_name behind.OnKey name = true
is_outside_name _ name = false

-- whether the token is outside there
abbrev pub is_outside : Behind → Tok → Bool
is_outside place (tok.Word reserved) = is_outside_word reserved
is_outside place (tok.Sign mark) = is_outside_sign place mark
is_outside place tok.Directive = true
is_outside place (tok.Name name) = is_outside_name place name
is_outside place _ = false
