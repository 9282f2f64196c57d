-- A sign or a word that was taken for an operator or a kind is that one's.
use Rattle.std.proofs.Common.{◌≡◌, ◌≤◌, false, List, ◌∷◌, Option, Some, None, ap, subst, arith}
use Rattle.std.specs.Prelude.{⊤}
use Rattle.std.specs.Option.{ForSome}
use Rattle.int_kinds.specs.declared.kinds.Kind.{Kind}
use Rattle.int_kinds.specs.declared.operators.BinOp.{BinOp}
use Rattle.int_kinds.specs.declared.operators.BinOp.TheVariants as op
use Rattle.int_kinds.specs.declared.operators.UnOp.{UnOp}
use Rattle.capl_lexer.specs.declared.token.Tok.{Tok}
use Rattle.capl_lexer.specs.declared.token.Tok.TheVariants as tok
use Rattle.capl_lexer.specs.declared.token.Word.{Word}
use Rattle.capl_lexer.specs.declared.token.Word.TheVariants as word
use Rattle.capl_lexer.specs.declared.token.Sign.{Sign}
use Rattle.capl_lexer.specs.declared.token.Sign.TheVariants as sign
use Rattle.capl_tree.specs.Grammar.{IsCompound}
use Rattle.capl_tree.specs.Binding.{kind_word, prefix_sign, postfix_sign, operator_sign, assignment_sign}
use Rattle.expr_parser.specs.declared.operator.Operator.{Operator}
use Rattle.expr_parser.specs.declared.operator.Operator.TheVariants as behind
use Rattle.expr_parser.specs.Operators.{operator_of, operator_at, binding, binding_of, prefix_operator, kind_of, kind_at}
use Rattle.expr_parser.specs.Reading.{begins}
use Rattle.expr_parser.specs.Reading as reading
use Rattle.expr_parser.proofs.Starts.{operator_bounds}

-- the sign of an operator behind an operand
abbrev pub behind_sign : Operator → Sign
behind_sign (behind.Assign of) = assignment_sign of
behind_sign behind.Choice = sign.Question
behind_sign (behind.Binary of) = operator_sign of
behind_sign behind.Index = sign.OpenBracket
behind_sign behind.Member = sign.Dot
behind_sign (behind.Post up) = postfix_sign up
behind_sign behind.Call = sign.OpenParen

abbrev sign_or_none : Option Operator → Sign
sign_or_none None = sign.Semi
sign_or_none (Some of) = behind_sign of

-- an operator's sign
operator_back : (s : Sign) (of : Operator) → operator_of s ≡ Some of → s ≡ behind_sign of
operator_back sign.OpenBrace of e = absurd cc
operator_back sign.CloseBrace of e = absurd cc
operator_back sign.CloseParen of e = absurd cc
operator_back sign.CloseBracket of e = absurd cc
operator_back sign.Semi of e = absurd cc
operator_back sign.Comma of e = absurd cc
operator_back sign.Colon of e = absurd cc
operator_back sign.Scope of e = absurd cc
operator_back sign.Dollar of e = absurd cc
operator_back sign.At of e = absurd cc
operator_back sign.Tilde of e = absurd cc
operator_back sign.Bang of e = absurd cc
operator_back _ of e = ap sign_or_none e

-- the operator that is the next token
pub operator_next : (ts : List Tok) (of : Operator) → operator_at ts ≡ Some of → ts ≡ tok.Sign (behind_sign of) ∷ reading.behind ts
operator_next (tok.Sign s ∷ ts) of e = ap (λ found. tok.Sign found ∷ ts) (operator_back s of e)
operator_next _ of e = absurd cc

-- the operator of an assignment has a sign with `=`
abbrev pub IsAssignable : Option Operator → Type 0
IsAssignable (Some (behind.Assign of)) = ForSome of IsCompound
IsAssignable _ = ⊤

abbrev compound_or_none : Option BinOp → Type 0
compound_or_none None = ⊤
compound_or_none (Some of) = IsCompound of

compound : (of : BinOp) → IsCompound of → ForSome (Some of) IsCompound
compound of well other e = subst compound_or_none e well

assignable_sign : (s : Sign) → IsAssignable (operator_of s)
assignable_sign sign.Assign = λ of e. absurd cc
assignable_sign sign.BarAssign = compound op.Or tt
assignable_sign sign.CaretAssign = compound op.Xor tt
assignable_sign sign.AmpAssign = compound op.And tt
assignable_sign sign.ShiftLeftAssign = compound op.Shl tt
assignable_sign sign.ShiftRightAssign = compound op.Shr tt
assignable_sign sign.PlusAssign = compound op.Add tt
assignable_sign sign.MinusAssign = compound op.Sub tt
assignable_sign sign.StarAssign = compound op.Mul tt
assignable_sign sign.SlashAssign = compound op.Div tt
assignable_sign sign.PercentAssign = compound op.Rem tt
assignable_sign _ = tt

-- the operator of the next token has a sign with `=`, where it is an assignment
pub assignable : (ts : List Tok) → IsAssignable (operator_at ts)
assignable (tok.Sign s ∷ ts) = assignable_sign s
assignable _ = tt

abbrev prefix_or_none : Option UnOp → Sign
prefix_or_none None = sign.Semi
prefix_or_none (Some of) = prefix_sign of

-- a prefix operator's sign
pub prefix_back : (s : Sign) (of : UnOp) → prefix_operator s ≡ Some of → s ≡ prefix_sign of
prefix_back sign.Minus of e = ap prefix_or_none e
prefix_back sign.Plus of e = ap prefix_or_none e
prefix_back sign.Bang of e = ap prefix_or_none e
prefix_back sign.Tilde of e = ap prefix_or_none e
prefix_back sign.PlusPlus of e = ap prefix_or_none e
prefix_back sign.MinusMinus of e = ap prefix_or_none e
prefix_back _ of e = absurd cc

abbrev kind_or_none : Option Kind → Word
kind_or_none None = word.This
kind_or_none (Some of) = kind_word of

kind_back : (w : Word) (of : Kind) → kind_of w ≡ Some of → w ≡ kind_word of
kind_back word.Byte of e = ap kind_or_none e
kind_back word.Word of e = ap kind_or_none e
kind_back word.Dword of e = ap kind_or_none e
kind_back word.Qword of e = ap kind_or_none e
kind_back word.Int of e = ap kind_or_none e
kind_back word.Long of e = ap kind_or_none e
kind_back word.Int64 of e = ap kind_or_none e
kind_back word.Char of e = ap kind_or_none e
kind_back _ of e = absurd cc

-- the kind whose word is the next token
pub kind_next : (ts : List Tok) (of : Kind) → kind_at ts ≡ Some of → ts ≡ tok.Word (kind_word of) ∷ reading.behind ts
kind_next (tok.Word w ∷ ts) of e = ap (λ found. tok.Word found ∷ ts) (kind_back w of e)
kind_next _ of e = absurd cc

-- nothing binds more strongly than the parenthesis of a call
pub binding_most : (of : Option Operator) → binding_of of ≤ 15
binding_most None = omega arith
binding_most (Some (behind.Assign of)) = omega arith
binding_most (Some behind.Choice) = omega arith
binding_most (Some (behind.Binary of)) = omega (arith, operator_bounds of)
binding_most (Some behind.Index) = omega arith
binding_most (Some behind.Member) = omega arith
binding_most (Some (behind.Post up)) = omega arith
binding_most (Some behind.Call) = omega arith

-- all but it bind at most as postfix operators do
pub not_called : (ts : List Tok) → begins sign.OpenParen ts ≡ false → binding ts ≤ 14
not_called (tok.Sign sign.OpenParen ∷ ts) is = absurd cc
not_called (tok.Sign _ ∷ ts) is = omega arith
not_called _ is = omega arith
