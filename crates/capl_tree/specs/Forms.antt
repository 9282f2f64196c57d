-- Patterns for the variants of trees with a box.
--
-- A definition matches on a variant without trees of its own kind by its name, as `Num value ext at`. One
-- with such trees has an apostrophe. A list in it is a shape, which tells how long it is, and a row:
-- `Call' name shape args at`, the row being `end_of-Expr` or `more_of-Expr first rest`. A box in it is a
-- shape and a row of one tree, for which these patterns name the tree alone: `Paren inner at`. No place in
-- memory is seen, so two trees of equal parts are one value.
use Rattle.std.specs.Prelude.{ℕ, Bool, Option}
use Rattle.int_kinds.specs.declared.kinds.Kind.{Kind}
use Rattle.int_kinds.specs.declared.operators.BinOp.{BinOp}
use Rattle.int_kinds.specs.declared.operators.UnOp.{UnOp}
use Rattle.capl_tree.specs.declared.expr.Expr.{Expr, end_of-Expr, more_of-Expr}
use Rattle.capl_tree.specs.declared.expr.Expr.TheVariants.{Paren', Index', Member', Cast', Unary', Post', Binary', Cond', Assign'}
use Rattle.capl_tree.specs.declared.expr.Field.{Field}
use Rattle.capl_tree.specs.declared.expr.Field.TheVariants.{Bytes'}
use Rattle.capl_tree.specs.declared.statement.Stmt.{Stmt, end_of-Stmt, more_of-Stmt}
use Rattle.capl_tree.specs.declared.statement.Stmt.TheBlock.{Held-Stmt-If-1, None', Some'}
use Rattle.capl_tree.specs.declared.statement.Stmt.TheVariants.{While', Do', For'}

-- `( INNER )`
pattern abbrev pub Paren : Expr → ℕ → Expr
Paren inner at = Paren' _ (more_of-Expr inner end_of-Expr) at

-- `BASE [ INDEX ]`
pattern abbrev pub Index : Expr → Expr → ℕ → Expr
Index base index at = Index' _ (more_of-Expr base end_of-Expr) _ (more_of-Expr index end_of-Expr) at

-- `BASE . FIELD`
pattern abbrev pub Member : Expr → Field → ℕ → Expr
Member base field at = Member' _ (more_of-Expr base end_of-Expr) field at

-- `KIND ( INDEX )` as a field
pattern abbrev pub Bytes : Kind → Expr → ℕ → Field
Bytes kind index at = Bytes' kind _ (more_of-Expr index end_of-Expr) at

-- `( KIND ) INNER`
pattern abbrev pub Cast : Kind → Expr → ℕ → Expr
Cast kind inner at = Cast' kind _ (more_of-Expr inner end_of-Expr) at

-- `OP INNER`
pattern abbrev pub Unary : UnOp → Expr → ℕ → Expr
Unary op inner at = Unary' op _ (more_of-Expr inner end_of-Expr) at

-- `INNER ++` or `INNER --`
pattern abbrev pub Post : Bool → Expr → ℕ → Expr
Post up inner at = Post' up _ (more_of-Expr inner end_of-Expr) at

-- `LEFT OP RIGHT`
pattern abbrev pub Binary : BinOp → Expr → Expr → ℕ → Expr
Binary op left right at = Binary' op _ (more_of-Expr left end_of-Expr) _ (more_of-Expr right end_of-Expr) at

-- `TEST ? ONE : OTHER`
pattern abbrev pub Cond : Expr → Expr → Expr → ℕ → Expr
Cond test one other at =
    Cond' _ (more_of-Expr test end_of-Expr) _ (more_of-Expr one end_of-Expr)
    _ (more_of-Expr other end_of-Expr) at

-- `LEFT = RIGHT`
pattern abbrev pub Assign : Option BinOp → Expr → Expr → ℕ → Expr
Assign op left right at = Assign' op _ (more_of-Expr left end_of-Expr) _ (more_of-Expr right end_of-Expr) at

-- no last `else`
pattern abbrev pub NoElse : Held-Stmt-If-1
NoElse = None'

-- a last `else` and what stands behind it
pattern abbrev pub Else : Stmt → Held-Stmt-If-1
Else body = Some' _ (more_of-Stmt body end_of-Stmt)

-- `while ( TEST ) BODY`
pattern abbrev pub While : Expr → Stmt → Stmt
While test body = While' test _ (more_of-Stmt body end_of-Stmt)

-- `do BODY while ( TEST ) ;`
pattern abbrev pub Do : Stmt → Expr → Stmt
Do body test = Do' _ (more_of-Stmt body end_of-Stmt) test

-- `for ( INIT ; TEST ; STEP ) BODY`
pattern abbrev pub For : Option Expr → Option Expr → Option Expr → Stmt → Stmt
For init test step body = For' init test step _ (more_of-Stmt body end_of-Stmt)
