-- With which tokens an expression begins, and which signs and words are those of operators and kinds.
use Rattle.std.proofs.Common.{◌≡◌, ◌≤◌, Bool, true, false, List, ◌∷◌, Option, Some, None, refl, arith, rules}
use Rattle.std.specs.Option.{ForSome}
use denote.Enum.Bare.{same_true}
use Rattle.int_kinds.specs.declared.kinds.Kind.{Kind}
use Rattle.int_kinds.specs.declared.kinds.Kind.TheVariants as kind
use Rattle.int_kinds.specs.declared.operators.BinOp.{BinOp}
use Rattle.int_kinds.specs.declared.operators.BinOp.TheVariants as op
use Rattle.int_kinds.specs.declared.operators.UnOp.{UnOp}
use Rattle.int_kinds.specs.declared.operators.UnOp.TheVariants as un
use Rattle.capl_lexer.specs.declared.token.Tok.{Tok}
use Rattle.capl_lexer.specs.declared.token.Tok.TheVariants as tok
use Rattle.capl_lexer.specs.declared.token.Word.TheVariants as word
use Rattle.capl_lexer.specs.declared.token.Sign.{Sign}
use Rattle.capl_lexer.specs.declared.token.Sign.TheVariants as sign
use Rattle.capl_lexer.specs.contracts.token.Sign as signs
use Rattle.capl_tree.specs.declared.expr.Expr.{Expr}
use Rattle.capl_tree.specs.declared.expr.Expr.TheVariants as expr
use Rattle.capl_tree.specs.Forms as form
use Rattle.capl_tree.specs.Binding.{operator_level, kind_word, prefix_sign, postfix_sign, operator_sign, assignment_sign}
use Rattle.capl_tree.specs.Grammar.{IsCompound}
use Rattle.capl_tree.specs.Spelling.{expression}
use Rattle.expr_parser.specs.declared.operator.Operator.TheVariants as behind
use Rattle.expr_parser.specs.Operators.{operator_of, prefix_operator, kind_of, kind_at}
use Rattle.expr_parser.specs.Reading.{same_sign, begins}

-- a binary operator's sign is its own
pub operator_found : (of : BinOp) → operator_of (operator_sign of) ≡ Some (behind.Binary of)
operator_found op.OrElse = refl
operator_found op.AndAlso = refl
operator_found op.Or = refl
operator_found op.Xor = refl
operator_found op.And = refl
operator_found op.Equal = refl
operator_found op.NotEqual = refl
operator_found op.Less = refl
operator_found op.LessEqual = refl
operator_found op.Greater = refl
operator_found op.GreaterEqual = refl
operator_found op.Shl = refl
operator_found op.Shr = refl
operator_found op.Add = refl
operator_found op.Sub = refl
operator_found op.Mul = refl
operator_found op.Div = refl
operator_found op.Rem = refl

-- an assignment's sign is its own
pub assignment_found : (of : Option BinOp) → ForSome of IsCompound → operator_of (assignment_sign of) ≡ Some (behind.Assign of)
assignment_found None well = refl
assignment_found (Some op.OrElse) well = absurd (well op.OrElse refl)
assignment_found (Some op.AndAlso) well = absurd (well op.AndAlso refl)
assignment_found (Some op.Equal) well = absurd (well op.Equal refl)
assignment_found (Some op.NotEqual) well = absurd (well op.NotEqual refl)
assignment_found (Some op.Less) well = absurd (well op.Less refl)
assignment_found (Some op.LessEqual) well = absurd (well op.LessEqual refl)
assignment_found (Some op.Greater) well = absurd (well op.Greater refl)
assignment_found (Some op.GreaterEqual) well = absurd (well op.GreaterEqual refl)
assignment_found (Some op.Or) well = refl
assignment_found (Some op.Xor) well = refl
assignment_found (Some op.And) well = refl
assignment_found (Some op.Shl) well = refl
assignment_found (Some op.Shr) well = refl
assignment_found (Some op.Add) well = refl
assignment_found (Some op.Sub) well = refl
assignment_found (Some op.Mul) well = refl
assignment_found (Some op.Div) well = refl
assignment_found (Some op.Rem) well = refl

-- a postfix operator's sign is its own
pub postfix_found : (up : Bool) → operator_of (postfix_sign up) ≡ Some (behind.Post up)
postfix_found true = refl
postfix_found false = refl

-- a prefix operator's sign is its own
pub prefix_found : (of : UnOp) → prefix_operator (prefix_sign of) ≡ Some of
prefix_found un.Minus = refl
prefix_found un.Plus = refl
prefix_found un.Not = refl
prefix_found un.Inv = refl
prefix_found un.Up = refl
prefix_found un.Down = refl

-- a kind's word is its own
pub kind_found : (of : Kind) → kind_of (kind_word of) ≡ Some of
kind_found kind.Byte = refl
kind_found kind.Word = refl
kind_found kind.Dword = refl
kind_found kind.Qword = refl
kind_found kind.Int = refl
kind_found kind.Long = refl
kind_found kind.Int64 = refl
kind_found kind.Char = refl

-- a binary operator binds more strongly than `?:`, and less than a prefix operator
pub operator_bounds : (of : BinOp) → (3 ≤ operator_level of) × (operator_level of ≤ 12)
operator_bounds op.OrElse = (omega arith, omega arith)
operator_bounds op.AndAlso = (omega arith, omega arith)
operator_bounds op.Or = (omega arith, omega arith)
operator_bounds op.Xor = (omega arith, omega arith)
operator_bounds op.And = (omega arith, omega arith)
operator_bounds op.Equal = (omega arith, omega arith)
operator_bounds op.NotEqual = (omega arith, omega arith)
operator_bounds op.Less = (omega arith, omega arith)
operator_bounds op.LessEqual = (omega arith, omega arith)
operator_bounds op.Greater = (omega arith, omega arith)
operator_bounds op.GreaterEqual = (omega arith, omega arith)
operator_bounds op.Shl = (omega arith, omega arith)
operator_bounds op.Shr = (omega arith, omega arith)
operator_bounds op.Add = (omega arith, omega arith)
operator_bounds op.Sub = (omega arith, omega arith)
operator_bounds op.Mul = (omega arith, omega arith)
operator_bounds op.Div = (omega arith, omega arith)
operator_bounds op.Rem = (omega arith, omega arith)

-- a sign with which an expression begins
abbrev pub sign_starts : Sign → Bool
sign_starts sign.OpenParen = true
sign_starts sign.Minus = true
sign_starts sign.Plus = true
sign_starts sign.Bang = true
sign_starts sign.Tilde = true
sign_starts sign.PlusPlus = true
sign_starts sign.MinusMinus = true
sign_starts _ = false

-- tokens with which an expression begins
abbrev pub starts : List Tok → Bool
starts (tok.Name name ∷ ts) = true
starts (tok.Num ext value ∷ ts) = true
starts (tok.Char value ∷ ts) = true
starts (tok.Str text ∷ ts) = true
starts (tok.Word word.This ∷ ts) = true
starts (tok.Sign of ∷ ts) = sign_starts of
starts _ = false

prefix_starts : (of : UnOp) → sign_starts (prefix_sign of) ≡ true
prefix_starts un.Minus = refl
prefix_starts un.Plus = refl
prefix_starts un.Not = refl
prefix_starts un.Inv = refl
prefix_starts un.Up = refl
prefix_starts un.Down = refl

-- every expression begins with such tokens
pub spelled_starts : (e : Expr) (rest : List Tok) → starts (expression e rest) ≡ true
spelled_starts (expr.Num value ext at) rest = refl
spelled_starts (expr.Char value at) rest = refl
spelled_starts (expr.Str text at) rest = refl
spelled_starts (expr.This at) rest = refl
spelled_starts (expr.Name name at) rest = refl
spelled_starts (form.Paren inner at) rest = refl
spelled_starts (expr.Call' name shape args at) rest = refl
spelled_starts (form.Index base index at) rest = spelled_starts base _
spelled_starts (form.Member base field at) rest = spelled_starts base _
spelled_starts (form.Cast of inner at) rest = refl
spelled_starts (form.Unary of inner at) rest = prefix_starts of
spelled_starts (form.Post up inner at) rest = spelled_starts inner _
spelled_starts (form.Binary of left right at) rest = spelled_starts left _
spelled_starts (form.Cond test one other at) rest = spelled_starts test _
spelled_starts (form.Assign of left right at) rest = spelled_starts left _

-- they are no word of a kind
pub starts_no_kind : (ts : List Tok) → starts ts ≡ true → kind_at ts ≡ None
starts_no_kind (tok.Word word.This ∷ ts) begin = refl
starts_no_kind (tok.Word _ ∷ ts) begin = absurd cc
starts_no_kind _ begin = refl

signs_differ : (wanted found : Sign) (same : Bool) → same_sign found wanted ≡ same → sign_starts found ≡ true → sign_starts wanted ≡ false → same ≡ false
signs_differ wanted found true is begin other = let one : found ≡ wanted = same_true signs.the_type (search rules) _ _ is in absurd cc
signs_differ wanted found false is begin other = refl

-- they are no other sign
pub starts_no_other : (wanted : Sign) (ts : List Tok) → sign_starts wanted ≡ false → starts ts ≡ true → begins wanted ts ≡ false
starts_no_other wanted (tok.Sign found ∷ ts) other begin = signs_differ wanted found (same_sign found wanted) refl begin other
starts_no_other wanted _ other begin = refl
