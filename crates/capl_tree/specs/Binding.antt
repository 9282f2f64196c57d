-- How strongly the parts of a tree bind, and the tokens of operators and kinds (CAPL manual, operators, data
-- types and statements).
use Rattle.std.specs.Prelude.{Bool, true, false, Option, Some, ℕ}
use Rattle.int_kinds.specs.declared.kinds.Kind.{Kind}
use Rattle.int_kinds.specs.declared.operators.BinOp.{BinOp}
use Rattle.int_kinds.specs.declared.operators.UnOp.{UnOp}
use Rattle.capl_lexer.specs.declared.token.Word.{Word}
use Rattle.capl_lexer.specs.declared.token.Sign.{Sign}
use Rattle.capl_tree.specs.declared.expr.Expr.{Expr}
use Rattle.capl_tree.specs.declared.statement.Stmt.{Stmt}
use Rattle.capl_tree.specs.declared.statement.Stmt.TheBlock.{Held-Stmt-If-1}
use Rattle.int_kinds.specs.declared.kinds.Kind.TheVariants as kind
use Rattle.int_kinds.specs.declared.operators.BinOp.TheVariants as op
use Rattle.int_kinds.specs.declared.operators.UnOp.TheVariants as un
use Rattle.capl_lexer.specs.declared.token.Word.TheVariants as word
use Rattle.capl_lexer.specs.declared.token.Sign.TheVariants as sign
use Rattle.capl_tree.specs.declared.statement.Stmt.TheVariants as stmt
use Rattle.capl_tree.specs.Forms as form

-- ---- The tokens of operators and kinds (CAPL manual, operators and data types).

-- the word of a kind
abbrev pub kind_word : Kind → Word
kind_word kind.Byte = word.Byte
kind_word kind.Word = word.Word
kind_word kind.Dword = word.Dword
kind_word kind.Qword = word.Qword
kind_word kind.Int = word.Int
kind_word kind.Long = word.Long
kind_word kind.Int64 = word.Int64
kind_word kind.Char = word.Char

-- the sign of a prefix operator
abbrev pub prefix_sign : UnOp → Sign
prefix_sign un.Minus = sign.Minus
prefix_sign un.Plus = sign.Plus
prefix_sign un.Not = sign.Bang
prefix_sign un.Inv = sign.Tilde
prefix_sign un.Up = sign.PlusPlus
prefix_sign un.Down = sign.MinusMinus

-- the sign of a postfix operator, which adds 1 or takes 1 away
abbrev pub postfix_sign : Bool → Sign
postfix_sign true = sign.PlusPlus
postfix_sign false = sign.MinusMinus

-- the sign of a binary operator
abbrev pub operator_sign : BinOp → Sign
operator_sign op.OrElse = sign.OrOr
operator_sign op.AndAlso = sign.AndAnd
operator_sign op.Or = sign.Bar
operator_sign op.Xor = sign.Caret
operator_sign op.And = sign.Amp
operator_sign op.Equal = sign.Equal
operator_sign op.NotEqual = sign.NotEqual
operator_sign op.Less = sign.Less
operator_sign op.LessEqual = sign.LessEqual
operator_sign op.Greater = sign.Greater
operator_sign op.GreaterEqual = sign.GreaterEqual
operator_sign op.Shl = sign.ShiftLeft
operator_sign op.Shr = sign.ShiftRight
operator_sign op.Add = sign.Plus
operator_sign op.Sub = sign.Minus
operator_sign op.Mul = sign.Star
operator_sign op.Div = sign.Slash
operator_sign op.Rem = sign.Percent

-- the sign of an assignment; an operator that has none with `=` is in no well formed one
abbrev pub assignment_sign : Option BinOp → Sign
assignment_sign (Some op.Or) = sign.BarAssign
assignment_sign (Some op.Xor) = sign.CaretAssign
assignment_sign (Some op.And) = sign.AmpAssign
assignment_sign (Some op.Shl) = sign.ShiftLeftAssign
assignment_sign (Some op.Shr) = sign.ShiftRightAssign
assignment_sign (Some op.Add) = sign.PlusAssign
assignment_sign (Some op.Sub) = sign.MinusAssign
assignment_sign (Some op.Mul) = sign.StarAssign
assignment_sign (Some op.Div) = sign.SlashAssign
assignment_sign (Some op.Rem) = sign.PercentAssign
assignment_sign _ = sign.Assign

-- ---- How strongly the parts of a tree bind: operators, and an `else` (CAPL manual, operators and
-- statements).

-- how strongly a binary operator binds
abbrev pub operator_level : BinOp → ℕ
operator_level op.OrElse = 3
operator_level op.AndAlso = 4
operator_level op.Or = 5
operator_level op.Xor = 6
operator_level op.And = 7
operator_level op.Equal = 8
operator_level op.NotEqual = 8
operator_level op.Less = 9
operator_level op.LessEqual = 9
operator_level op.Greater = 9
operator_level op.GreaterEqual = 9
operator_level op.Shl = 10
operator_level op.Shr = 10
operator_level op.Add = 11
operator_level op.Sub = 11
operator_level op.Mul = 12
operator_level op.Div = 12
operator_level op.Rem = 12

-- an assignment, which binds weakest
abbrev pub assignment_level : ℕ
assignment_level = 1

-- `?:`
abbrev pub choice_level : ℕ
choice_level = 2

-- the binary operator that binds weakest
abbrev pub binary_level : ℕ
binary_level = 3

-- a prefix operator or a cast
abbrev pub prefix_level : ℕ
prefix_level = 13

-- `[`, `.`, `++` and `--` behind an operand
abbrev pub postfix_level : ℕ
postfix_level = 14

-- an operand of one piece
abbrev pub operand_level : ℕ
operand_level = 15

-- how strongly the outermost operator of an expression binds
abbrev pub level : Expr → ℕ
level (form.Assign operator left right at) = assignment_level
level (form.Cond test one other at) = choice_level
level (form.Binary operator left right at) = operator_level operator
level (form.Unary operator inner at) = prefix_level
level (form.Cast kind inner at) = prefix_level
level (form.Post up inner at) = postfix_level
level (form.Index base index at) = postfix_level
level (form.Member base field at) = postfix_level
level _ = operand_level

-- whether an `else` behind the statement would belong to an `if` in it
abbrev mutual
  -- a statement
  pub takes_else : Stmt → Bool
  takes_else (stmt.If' shape arms other) = last_takes_else other
  takes_else (form.While test body) = takes_else body
  takes_else (form.For init test step body) = takes_else body
  takes_else _ = false

  -- an `if`, by what stands behind its last `else`
  pub last_takes_else : Held-Stmt-If-1 → Bool
  last_takes_else form.NoElse = true
  last_takes_else (form.Else body) = takes_else body
