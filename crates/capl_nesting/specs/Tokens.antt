-- What tokens are, without their places.
use Rattle.std.specs.Prelude.{List, map}
use Rattle.capl_lexer.specs.declared.token.Tok.{Tok}
use Rattle.capl_lexer.specs.declared.token.Token.{Token}

-- what the tokens are
abbrev pub toks : List Token → List Tok
toks tokens = map (λ (token : Token). token.tok) tokens
