-- Patterns for the variants of trees with a box.
--
-- A definition matches on a variant without trees of its own kind by its name, as `Const n`. One with such
-- trees has an apostrophe. A list in it is a shape, which tells how long it is, and a row: `Call' f shape
-- args`, the row being `end_of-TExpr` or `more_of-TExpr first rest`. A box in it is a shape and a row of one
-- tree, for which these patterns name the tree alone: `Both a b`. No place in memory is seen, so two trees of
-- equal parts are one value.
use Rattle.std.specs.Prelude.{ℕ, Option}
use Rattle.int_kinds.specs.declared.kinds.Kind.{Kind}
use Rattle.int_kinds.specs.declared.operators.BinOp.{BinOp}
use Rattle.int_kinds.specs.declared.operators.UnOp.{UnOp}
use Rattle.typed_tree.specs.declared.expression.Place.{Place}
use Rattle.typed_tree.specs.declared.expression.Place.TheVariants.{Elem', Bytes'}
use Rattle.typed_tree.specs.declared.expression.TExpr.{TExpr, end_of-TExpr, more_of-TExpr}
use Rattle.typed_tree.specs.declared.expression.TExpr.TheVariants.{Store', Update', Unary', Binary', Both', Either', Cond', Convert'}
use Rattle.typed_tree.specs.declared.statement.TStmt.{TStmt, end_of-TStmt, more_of-TStmt}
use Rattle.typed_tree.specs.declared.statement.TStmt.TheBlock.{Held-TStmt-If-1, None', Some'}
use Rattle.typed_tree.specs.declared.statement.TStmt.TheVariants.{While', Do', For'}

-- an element of an array
pattern abbrev pub Elem : ℕ → ℕ → TExpr → Place
Elem base len index = Elem' base len _ (more_of-TExpr index end_of-TExpr)

-- payload bytes of a message
pattern abbrev pub Bytes : ℕ → Kind → TExpr → Place
Bytes at k index = Bytes' at k _ (more_of-TExpr index end_of-TExpr)

-- an assignment
pattern abbrev pub Store : Place → TExpr → TExpr
Store place e = Store' place _ (more_of-TExpr e end_of-TExpr)

-- an assignment with an operator
pattern abbrev pub Update : BinOp → Kind → Kind → Place → TExpr → TExpr
Update op k back place e = Update' op k back place _ (more_of-TExpr e end_of-TExpr)

-- a prefix operator
pattern abbrev pub Unary : UnOp → Kind → TExpr → TExpr
Unary op k e = Unary' op k _ (more_of-TExpr e end_of-TExpr)

-- a binary operator
pattern abbrev pub Binary : BinOp → Kind → TExpr → TExpr → TExpr
Binary op k a b = Binary' op k _ (more_of-TExpr a end_of-TExpr) _ (more_of-TExpr b end_of-TExpr)

-- `&&`
pattern abbrev pub Both : TExpr → TExpr → TExpr
Both a b = Both' _ (more_of-TExpr a end_of-TExpr) _ (more_of-TExpr b end_of-TExpr)

-- `||`
pattern abbrev pub Either : TExpr → TExpr → TExpr
Either a b = Either' _ (more_of-TExpr a end_of-TExpr) _ (more_of-TExpr b end_of-TExpr)

-- `?:`
pattern abbrev pub Cond : TExpr → TExpr → TExpr → TExpr
Cond test a b =
    Cond' _ (more_of-TExpr test end_of-TExpr)
    _ (more_of-TExpr a end_of-TExpr) _ (more_of-TExpr b end_of-TExpr)

-- a number wrapped to a kind
pattern abbrev pub Convert : Kind → TExpr → TExpr
Convert k e = Convert' k _ (more_of-TExpr e end_of-TExpr)

-- a part that is missing
pattern abbrev pub NoPart : Held-TStmt-If-1
NoPart = None'

-- a part that is there
pattern abbrev pub Part : TStmt → Held-TStmt-If-1
Part part = Some' _ (more_of-TStmt part end_of-TStmt)

-- `while`
pattern abbrev pub While : TExpr → TStmt → TStmt
While test body = While' test _ (more_of-TStmt body end_of-TStmt)

-- `do`
pattern abbrev pub Do : TStmt → TExpr → TStmt
Do body test = Do' _ (more_of-TStmt body end_of-TStmt) test

-- `for`
pattern abbrev pub For : Held-TStmt-If-1 → Option TExpr → Held-TStmt-If-1 → TStmt → TStmt
For init test step body = For' init test step _ (more_of-TStmt body end_of-TStmt)
