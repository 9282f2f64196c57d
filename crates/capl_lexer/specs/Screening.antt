-- The tokens that a program may not have (CAPL manual, keywords, operators, event procedures): floating
-- point, and what belongs to other buses, to tests and to diagnostics.
use Rattle.std.specs.Prelude.{◌≡◌, ◌⊎◌, ⊤, ℕ, List, [], ◌∷◌, ◌++◌, length, map, codes}
use Rattle.texts.specs.declared.blame.Rule.{Rule}
use Rattle.capl_lexer.specs.declared.token.Word.{Word}
use Rattle.capl_lexer.specs.declared.token.Word.TheVariants as word
use Rattle.capl_lexer.specs.declared.token.Sign.{Sign}
use Rattle.capl_lexer.specs.declared.token.Sign.TheVariants as sign
use Rattle.capl_lexer.specs.declared.token.Tok.{Tok}
use Rattle.capl_lexer.specs.declared.token.Tok.TheVariants as tok
use Rattle.capl_lexer.specs.declared.token.Token.{Token}

-- what the tokens are, without their places
abbrev pub kinds_of : List Token → List Tok
kinds_of tokens = map (λ token. token.tok) tokens

-- these tokens stand last
abbrev pub EndsWith : List Tok → List Tok → Type 0
EndsWith tokens last = (first : List Tok) × (tokens ≡ first ++ last)

-- the words of floating point
abbrev pub IsFloatWord : Word → Type 0
IsFloatWord word.Float = ⊤
IsFloatWord word.Double = ⊤
IsFloatWord _ = ⊥

-- floating point: its words, a number with a point, and `phys` behind `.`
abbrev pub IsFloatingPoint : List Tok → Tok → Type 0
IsFloatingPoint before (tok.Word reserved) = IsFloatWord reserved
IsFloatingPoint before tok.Float = ⊤
IsFloatingPoint before (tok.Name name) = (name ≡ codes "phys") × EndsWith before (tok.Sign sign.Dot ∷ [])
IsFloatingPoint before _ = ⊥

-- the words of other buses, of tests and diagnostics, and of types that the profile has not
abbrev pub IsOutsideWord : Word → Type 0
IsOutsideWord word.Struct = ⊤
IsOutsideWord word.Enum = ⊤
IsOutsideWord word.Stack = ⊤
IsOutsideWord word.Testcase = ⊤
IsOutsideWord word.Testfunction = ⊤
IsOutsideWord word.DiagRequest = ⊤
IsOutsideWord word.DiagResponse = ⊤
IsOutsideWord word.LinFrame = ⊤
IsOutsideWord word.FrFrame = ⊤
IsOutsideWord word.EthernetPacket = ⊤
IsOutsideWord _ = ⊥

-- the signs of system variables and signals, and a further dimension of an array
abbrev pub IsOutsideSign : List Tok → Sign → Type 0
IsOutsideSign before sign.Dollar = ⊤
IsOutsideSign before sign.At = ⊤
IsOutsideSign before sign.Scope = ⊤
IsOutsideSign before sign.OpenBracket = EndsWith before (tok.Sign sign.CloseBracket ∷ [])
IsOutsideSign before _ = ⊥

-- the name of an event procedure
abbrev pub IsEventName : List ℕ → Type 0
IsEventName name =
    (name ≡ codes "preStart") ⊎ (name ≡ codes "start")
    ⊎ (name ≡ codes "stopMeasurement") ⊎ (name ≡ codes "key")

-- a name behind `on` that no event procedure has, or one behind `on key`
abbrev pub IsOutsideName : List Tok → List ℕ → Type 0
IsOutsideName before name =
    (EndsWith before (tok.Word word.On ∷ []) × (IsEventName name → ⊥))
    ⊎ EndsWith before (tok.Word word.On ∷ tok.Name (codes "key") ∷ [])

-- what else the profile leaves out: such words, signs and names, and directives
abbrev pub IsOutside : List Tok → Tok → Type 0
IsOutside before (tok.Word reserved) = IsOutsideWord reserved
IsOutside before (tok.Sign mark) = IsOutsideSign before mark
IsOutside before tok.Directive = ⊤
IsOutside before (tok.Name name) = IsOutsideName before name
IsOutside before _ = ⊥

-- the rule that a token is floating point
abbrev pub floating_point_rule : Rule
floating_point_rule = record { group = 69; number = 5 }

-- the rule that a token is outside the profile otherwise
abbrev pub outside_rule : Rule
outside_rule = record { group = 69; number = 6 }

-- a token breaks the rule behind the tokens before it
abbrev pub BreaksBehind : List Tok → Tok → Rule → Type 0
BreaksBehind before token rule =
    ((rule ≡ floating_point_rule) × IsFloatingPoint before token)
    ⊎ ((rule ≡ outside_rule) × IsOutside before token)

-- the token at the place breaks the rule
pub record Breaks (tokens : List Token) (place : ℕ) (rule : Rule) : Type 0 where
  pub before : List Token
  pub token : Token
  pub after : List Token
  pub split : tokens ≡ before ++ token ∷ after
  pub at : place ≡ length before
  pub breaks : BreaksBehind (kinds_of before) token.tok rule
