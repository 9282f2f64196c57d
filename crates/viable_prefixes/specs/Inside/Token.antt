-- What a token is, by itself.
use Rattle.std.specs.Prelude.{Bool, false, Option, None}
use Rattle.int_kinds.specs.declared.kinds.Kind.{Kind}
use Rattle.capl_lexer.specs.declared.token.Tok.{Tok}
use Rattle.capl_lexer.specs.declared.token.Tok.TheVariants as tok
use Rattle.capl_lexer.specs.declared.token.Word.{Word}
use Rattle.capl_lexer.specs.declared.token.Sign.{Sign}
use Rattle.expr_parser.specs.declared.operator.Operator.{Operator}
use Rattle.expr_parser.specs.Operators.{operator_of, kind_of}
use Rattle.expr_parser.specs.Reading.{same_sign, same_word}

-- whether it is this sign
abbrev pub is_sign : Sign → Tok → Bool
is_sign wanted (tok.Sign found) = same_sign found wanted
is_sign wanted _ = false

-- whether it is this word
abbrev pub is_word : Word → Tok → Bool
is_word wanted (tok.Word found) = same_word found wanted
is_word wanted _ = false

-- the kind whose word it is
abbrev pub kind_in : Tok → Option Kind
kind_in (tok.Word found) = kind_of found
kind_in _ = None

-- what it makes of an operand before it
abbrev pub operator_in : Tok → Option Operator
operator_in (tok.Sign found) = operator_of found
operator_in _ = None
