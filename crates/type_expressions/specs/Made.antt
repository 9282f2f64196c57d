-- What is made of expressions, and what for.
use Rattle.std.specs.Prelude.{ℕ, ◌≤◌, true, false, List, [], ◌∷◌, Option, Some, None}
use Rattle.int_kinds.specs.declared.operators.BinOp.{BinOp}
use Rattle.int_kinds.specs.declared.operators.UnOp.{UnOp}
use Rattle.int_kinds.specs.declared.operators.UnOp.TheVariants as prefix
use Rattle.int_kinds.specs.Kind.{join}
use Rattle.capl_tree.specs.declared.expr.Expr.{Expr}
use Rattle.typed_tree.specs.declared.expression.Place.{Place}
use Rattle.typed_tree.specs.declared.expression.TExpr.{TExpr}
use Rattle.typed_tree.specs.Forms.{Unary}
use Rattle.capl_meaning.specs.declared.sort.Sort.{Sort}
use Rattle.capl_meaning.specs.Names.{Names}
use Rattle.capl_meaning.specs.Format.{quoted_text}
use Rattle.capl_meaning.specs.Sort.{kind_in, working_kind}
use Rattle.typed_laws.specs.Laid.{AreDistinct}
use Rattle.typed_source.specs.Expression.{loaded, stepping, storing, updating}
use Rattle.check_calls.specs.Calls.{AreCallsOf, order_of}
use Rattle.type_expressions.specs.declared.made.Shape.{Shape}
use Rattle.type_expressions.specs.declared.made.Shape.TheVariants as shape
use Rattle.type_expressions.specs.declared.made.TreeTables.{TreeTables}
use Rattle.type_expressions.specs.Layout.{IsLayoutOf, size_in}

-- the layout and the calls are those of a program in which no name is declared twice, and which has at most
-- 1,000,000 cells
pub record AreTreeTables (names : Names) (tables : TreeTables) : Type 0 where
  pub layout : IsLayoutOf names tables.layout.now
  pub calls : AreCallsOf names tables.calls.now
  pub distinct : AreDistinct names.variables
  pub few : size_in names names.variables ≤ 1000000

-- the order of the functions
abbrev pub order_in : TreeTables → List ℕ
order_in tables = order_of tables.calls.now

-- the tree of a value, which is the number at a place where it is one
abbrev pub value_in : Shape → TExpr
value_in (shape.Place place) = loaded place
value_in (shape.Value tree) = tree

-- the place, where it is one
abbrev pub place_in : Shape → Option Place
place_in (shape.Place place) = place
place_in (shape.Value tree) = None

-- a prefix operator before a place, or a value of a sort
abbrev pub prefix_tree : UnOp → Sort → Option Place → TExpr → TExpr
prefix_tree prefix.Up sort place value = stepping (kind_in sort) true false place
prefix_tree prefix.Down sort place value = stepping (kind_in sort) false false place
prefix_tree op sort place value = Unary op (join (kind_in sort) (kind_in sort)) value

-- an assignment of a value to a place, by the sorts of its sides
abbrev pub assigning : Option BinOp → Sort → Sort → Option Place → TExpr → TExpr
assigning None left right place value = storing place value
assigning (Some op) left right place value =
    updating op (working_kind op (kind_in left) (kind_in right)) place value

-- the bytes of the first of expressions, where it is a text
abbrev pub text_of_first : List Expr → Option (List ℕ)
text_of_first [] = None
text_of_first (e ∷ es) = quoted_text e
