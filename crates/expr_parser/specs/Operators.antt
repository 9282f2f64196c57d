-- What each sign and each word of a kind is in an expression (CAPL manual, operators and data types).
use Rattle.std.specs.Prelude.{ℕ, true, false, List, ◌∷◌, Option, Some, None}
use Rattle.int_kinds.specs.declared.kinds.Kind.{Kind}
use Rattle.int_kinds.specs.declared.kinds.Kind.TheVariants as kind
use Rattle.int_kinds.specs.declared.operators.BinOp.TheVariants as op
use Rattle.int_kinds.specs.declared.operators.UnOp.{UnOp}
use Rattle.int_kinds.specs.declared.operators.UnOp.TheVariants as un
use Rattle.capl_lexer.specs.declared.token.Tok.{Tok}
use Rattle.capl_lexer.specs.declared.token.Tok.TheVariants as tok
use Rattle.capl_lexer.specs.declared.token.Word.{Word}
use Rattle.capl_lexer.specs.declared.token.Word.TheVariants as word
use Rattle.capl_lexer.specs.declared.token.Sign.{Sign}
use Rattle.capl_lexer.specs.declared.token.Sign.TheVariants as sign
use Rattle.capl_tree.specs.Binding.{assignment_level, choice_level, postfix_level, operand_level, operator_level}
use Rattle.expr_parser.specs.declared.operator.Operator.{Operator}
use Rattle.expr_parser.specs.declared.operator.Operator.TheVariants as behind

-- what a sign makes of an operand before it
abbrev pub operator_of : Sign → Option Operator
operator_of sign.Assign = Some (behind.Assign None)
operator_of sign.BarAssign = Some (behind.Assign (Some op.Or))
operator_of sign.CaretAssign = Some (behind.Assign (Some op.Xor))
operator_of sign.AmpAssign = Some (behind.Assign (Some op.And))
operator_of sign.ShiftLeftAssign = Some (behind.Assign (Some op.Shl))
operator_of sign.ShiftRightAssign = Some (behind.Assign (Some op.Shr))
operator_of sign.PlusAssign = Some (behind.Assign (Some op.Add))
operator_of sign.MinusAssign = Some (behind.Assign (Some op.Sub))
operator_of sign.StarAssign = Some (behind.Assign (Some op.Mul))
operator_of sign.SlashAssign = Some (behind.Assign (Some op.Div))
operator_of sign.PercentAssign = Some (behind.Assign (Some op.Rem))
operator_of sign.Question = Some behind.Choice
operator_of sign.OrOr = Some (behind.Binary op.OrElse)
operator_of sign.AndAnd = Some (behind.Binary op.AndAlso)
operator_of sign.Bar = Some (behind.Binary op.Or)
operator_of sign.Caret = Some (behind.Binary op.Xor)
operator_of sign.Amp = Some (behind.Binary op.And)
operator_of sign.Equal = Some (behind.Binary op.Equal)
operator_of sign.NotEqual = Some (behind.Binary op.NotEqual)
operator_of sign.Less = Some (behind.Binary op.Less)
operator_of sign.LessEqual = Some (behind.Binary op.LessEqual)
operator_of sign.Greater = Some (behind.Binary op.Greater)
operator_of sign.GreaterEqual = Some (behind.Binary op.GreaterEqual)
operator_of sign.ShiftLeft = Some (behind.Binary op.Shl)
operator_of sign.ShiftRight = Some (behind.Binary op.Shr)
operator_of sign.Plus = Some (behind.Binary op.Add)
operator_of sign.Minus = Some (behind.Binary op.Sub)
operator_of sign.Star = Some (behind.Binary op.Mul)
operator_of sign.Slash = Some (behind.Binary op.Div)
operator_of sign.Percent = Some (behind.Binary op.Rem)
operator_of sign.OpenBracket = Some behind.Index
operator_of sign.Dot = Some behind.Member
operator_of sign.PlusPlus = Some (behind.Post true)
operator_of sign.MinusMinus = Some (behind.Post false)
operator_of sign.OpenParen = Some behind.Call
operator_of _ = None

-- how strongly it binds; 0 for none
abbrev pub binding_of : Option Operator → ℕ
binding_of None = 0
binding_of (Some (behind.Assign op)) = assignment_level
binding_of (Some behind.Choice) = choice_level
binding_of (Some (behind.Binary op)) = operator_level op
binding_of (Some behind.Index) = postfix_level
binding_of (Some behind.Member) = postfix_level
binding_of (Some (behind.Post up)) = postfix_level
binding_of (Some behind.Call) = operand_level

-- what the next token makes of an operand before it
abbrev pub operator_at : List Tok → Option Operator
operator_at (tok.Sign of ∷ ts) = operator_of of
operator_at _ = None

-- how strongly the next token goes on with an operand before it; 0 where it does not
abbrev pub binding : List Tok → ℕ
binding ts = binding_of (operator_at ts)

-- the prefix operator of a sign
abbrev pub prefix_operator : Sign → Option UnOp
prefix_operator sign.Minus = Some un.Minus
prefix_operator sign.Plus = Some un.Plus
prefix_operator sign.Bang = Some un.Not
prefix_operator sign.Tilde = Some un.Inv
prefix_operator sign.PlusPlus = Some un.Up
prefix_operator sign.MinusMinus = Some un.Down
prefix_operator _ = None

-- the kind of a word
abbrev pub kind_of : Word → Option Kind
kind_of word.Byte = Some kind.Byte
kind_of word.Word = Some kind.Word
kind_of word.Dword = Some kind.Dword
kind_of word.Qword = Some kind.Qword
kind_of word.Int = Some kind.Int
kind_of word.Long = Some kind.Long
kind_of word.Int64 = Some kind.Int64
kind_of word.Char = Some kind.Char
kind_of _ = None

-- the kind of the next token
abbrev pub kind_at : List Tok → Option Kind
kind_at (tok.Word of ∷ ts) = kind_of of
kind_at _ = None
