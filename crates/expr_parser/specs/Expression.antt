-- The reader of expressions (CAPL manual, operators).
--
-- An operand is read first, and then as many operators behind it as bind strongly enough. A rule takes the
-- reader of what nests in it as an argument. `total` is the number of tokens of the file.
use Rattle.std.specs.Prelude.{ℕ, zero, suc, ◌+◌, ◌-◌, nat_lt, if◌then◌else◌, List, [], ◌∷◌, length, Option, Some, None}
use Rattle.int_kinds.specs.declared.kinds.Kind.{Kind}
use Rattle.int_kinds.specs.declared.operators.BinOp.{BinOp}
use Rattle.int_kinds.specs.declared.operators.UnOp.{UnOp}
use Rattle.capl_lexer.specs.declared.token.Tok.{Tok}
use Rattle.capl_lexer.specs.declared.token.Tok.TheVariants as tok
use Rattle.capl_lexer.specs.declared.token.Word.TheVariants as word
use Rattle.capl_lexer.specs.declared.token.Sign.TheVariants as sign
use Rattle.capl_tree.specs.declared.expr.Expr.{Expr}
use Rattle.capl_tree.specs.declared.expr.Expr.TheVariants as expr
use Rattle.capl_tree.specs.declared.expr.Field.{Field}
use Rattle.capl_tree.specs.declared.expr.Field.TheVariants.{Named, Bytes}
use Rattle.capl_tree.specs.Binding.{assignment_level, choice_level, prefix_level, operator_level}
use Rattle.capl_tree.specs.Place.{expression_place}
use Rattle.expr_parser.specs.declared.operator.Operator.{Operator}
use Rattle.expr_parser.specs.declared.operator.Operator.TheVariants as behind
use Rattle.expr_parser.specs.Operators.{operator_at, binding, prefix_operator, kind_at}
use Rattle.expr_parser.specs.Reading.{Read, and_then, begins, behind, after, items}

-- a reader of expressions that bind at a level or more strongly
abbrev pub Reader : Type 0
Reader = ℕ → List Tok → Read Expr

-- the arguments of a call up to its closing parenthesis
unfoldable pub arguments : Reader → List Tok → Read (List Expr)
arguments inner ts =
    if begins sign.CloseParen ts then Some ([], behind ts)
    else and_then (items (inner assignment_level) ts) (λ found rest.
    and_then (after sign.CloseParen rest) (λ _ rest. Some (found, rest)))

-- behind a name: the arguments of a call, or nothing
unfoldable pub named : Reader → ℕ → List ℕ → List Tok → Read Expr
named inner at name ts =
    if begins sign.OpenParen ts
    then and_then (arguments inner (behind ts)) (λ found rest. Some (expr.Call name found at, rest))
    else Some (expr.Name name at, ts)

-- behind an opening parenthesis: the kind of a cast and its operand, or an expression
unfoldable pub enclosed : Reader → ℕ → Option Kind → List Tok → Read Expr
enclosed inner at None ts =
    and_then (inner assignment_level ts) (λ e rest. and_then (after sign.CloseParen rest) (λ _ rest.
    Some (expr.Paren e at, rest)))
enclosed inner at (Some of) ts =
    and_then (after sign.CloseParen (behind ts)) (λ _ rest. and_then (inner prefix_level rest) (λ e rest.
    Some (expr.Cast of e at, rest)))

-- behind a prefix operator: its operand
unfoldable pub unary : Reader → ℕ → Option UnOp → List Tok → Read Expr
unary inner at None ts = None
unary inner at (Some op) ts = and_then (inner prefix_level ts) (λ e rest. Some (expr.Unary op e at, rest))

-- an operand of one piece, or a prefix operator or a cast with its operand
unfoldable pub operand : Reader → ℕ → List Tok → Read Expr
operand inner at (tok.Name name ∷ ts) = named inner at name ts
operand inner at (tok.Num ext value ∷ ts) = Some (expr.Num value ext at, ts)
operand inner at (tok.Char value ∷ ts) = Some (expr.Char value at, ts)
operand inner at (tok.Str text ∷ ts) = Some (expr.Str text at, ts)
operand inner at (tok.Word word.This ∷ ts) = Some (expr.This at, ts)
operand inner at (tok.Sign sign.OpenParen ∷ ts) = enclosed inner at (kind_at ts) ts
operand inner at (tok.Sign of ∷ ts) = unary inner at (prefix_operator of) ts
operand inner at _ = None

-- behind the word of a kind: the index of bytes of the payload
unfoldable pub bytes : Reader → ℕ → Kind → List Tok → Read Field
bytes inner at of ts =
    and_then (after sign.OpenParen ts) (λ _ rest. and_then (inner assignment_level rest) (λ index rest.
    and_then (after sign.CloseParen rest) (λ _ rest. Some (Bytes of index at, rest))))

-- the name of a field
unfoldable pub named_field : ℕ → List Tok → Read Field
named_field at (tok.Name name ∷ ts) = Some (Named name at, ts)
named_field at _ = None

-- a field, by the kind that it begins with
unfoldable pub field_at : Reader → ℕ → Option Kind → List Tok → Read Field
field_at inner at None ts = named_field at ts
field_at inner at (Some of) ts = bytes inner at of (behind ts)

-- a field, at its place
unfoldable pub field : ℕ → Reader → List Tok → Read Field
field total inner ts = field_at inner (total - length ts) (kind_at ts) ts

-- behind the left side of an assignment and its sign: the right side
unfoldable pub assign : Reader → Expr → Option BinOp → List Tok → Read Expr
assign inner left op ts =
    and_then (inner assignment_level ts) (λ right rest.
    Some (expr.Assign op left right (expression_place left), rest))

-- behind the test of a `?:`: its two other parts
unfoldable pub choice : Reader → Expr → List Tok → Read Expr
choice inner test ts =
    and_then (inner assignment_level ts) (λ one rest. and_then (after sign.Colon rest) (λ _ rest.
    and_then (inner choice_level rest) (λ other rest.
    Some (expr.Cond test one other (expression_place test), rest))))

-- behind the left operand of a binary operator and its sign: the right operand, which binds more strongly
unfoldable pub binary : Reader → Expr → BinOp → List Tok → Read Expr
binary inner left op ts =
    and_then (inner (operator_level op + 1) ts) (λ right rest.
    Some (expr.Binary op left right (expression_place left), rest))

-- behind the base of an index and its bracket: the index up to the closing bracket
unfoldable pub index : Reader → Expr → List Tok → Read Expr
index inner base ts =
    and_then (inner assignment_level ts) (λ e rest. and_then (after sign.CloseBracket rest) (λ _ rest.
    Some (expr.Index base e (expression_place base), rest)))

-- behind the base of a member and its point: the field
unfoldable pub member : ℕ → Reader → Expr → List Tok → Read Expr
member total inner base ts =
    and_then (field total inner ts) (λ of rest. Some (expr.Member base of (expression_place base), rest))

-- behind an operand and an operator: what it makes of the operand
unfoldable pub operated : ℕ → Reader → Expr → Option Operator → List Tok → Read Expr
operated total inner left (Some (behind.Assign op)) ts = assign inner left op ts
operated total inner left (Some behind.Choice) ts = choice inner left ts
operated total inner left (Some (behind.Binary op)) ts = binary inner left op ts
operated total inner left (Some behind.Index) ts = index inner left ts
operated total inner left (Some behind.Member) ts = member total inner left ts
operated total inner left (Some (behind.Post up)) ts = Some (expr.Post up left (expression_place left), ts)
operated total inner left (Some behind.Call) ts = None
operated total inner left None ts = None

-- as many operators as bind at this level or more strongly, each behind all before it; the number bounds them
unfoldable pub climb : ℕ → Reader → ℕ → ℕ → Expr → List Tok → Read Expr
climb total inner least zero left ts = Some (left, ts)
climb total inner least (suc n) left ts =
    if nat_lt (binding ts) least then Some (left, ts)
    else and_then (operated total inner left (operator_at ts) (behind ts)) (λ e rest.
    climb total inner least n e rest)

-- the same, as many as there are tokens
unfoldable pub climbs : ℕ → Reader → ℕ → Expr → List Tok → Read Expr
climbs total inner least left ts = climb total inner least (length ts) left ts

-- an expression that binds at this level or more strongly; `depth` bounds how deep expressions nest
unfoldable pub expression : ℕ → ℕ → ℕ → List Tok → Read Expr
expression total zero least ts = None
expression total (suc depth) least ts =
    and_then (operand (expression total depth) (total - length ts) ts) (λ e rest.
    climbs total (expression total depth) least e rest)
