-- The names that are called in each form of expression and statement, as code makes it.
use mathlib.Core.Former.{Count}
use Rattle.std.proofs.Common.{◌≡◌, ◌++◌, ◌∷◌, ◌∙◌, ℕ, Bool, List, [], Option, Some, None, ap, refl, sym, append_assoc}
use Rattle.int_kinds.specs.declared.kinds.Kind.{Kind}
use Rattle.int_kinds.specs.declared.operators.BinOp.{BinOp}
use Rattle.int_kinds.specs.declared.operators.UnOp.{UnOp}
use Rattle.capl_tree.specs.declared.expr.Expr.{Expr, Row_of-Expr, end_of-Expr, more_of-Expr}
use Rattle.capl_tree.specs.declared.expr.Expr.TheBlock.{items-the_row-Expr, items_hidden-the_row-Expr-1}
use Rattle.capl_tree.specs.declared.expr.Expr.TheVariants as expr
use Rattle.capl_tree.specs.declared.expr.Field.{Field}
use Rattle.capl_tree.specs.declared.expr.Field.TheVariants as field
use Rattle.capl_tree.specs.declared.statement.Arm.{Arm}
use Rattle.capl_tree.specs.declared.statement.Group.{Group}
use Rattle.capl_tree.specs.declared.statement.Stmt.{Stmt, Row_of-Stmt, end_of-Stmt, more_of-Stmt}
use Rattle.capl_tree.specs.declared.statement.Stmt.TheBlock.{Row_of-Arm, end_of-Arm, more_of-Arm, Row_of-Group, end_of-Group, more_of-Group, items-the_row-Stmt, items-the_row-Arm, items-the_row-Group, items_hidden-the_row-Stmt-0, items_shown-the_row-Stmt-0, shown-the_row-Stmt-0, items_hidden-the_row-Arm-1, items_hidden-the_row-Group-3}
use Rattle.capl_tree.specs.declared.statement.Stmt.TheVariants as stmt
use Rattle.capl_tree.proofs.FormLemmas as shape
use Rattle.capl_meaning.specs.Calls.{calls_in, calls_in_field, calls_in_labels, calls_in_part, calls_in_row, names_called, calls_of_arms, calls_of_groups, calls_of_row}
use Rattle.check_calls.specs.Callees.{calls_of_all}
use Rattle.check_calls.specs.Inside.Added.{calls_in_all, calls_of_cases, calls_of_list, calls_of_other}

-- an expression between parentheses
pub paren_calls : (e inner : Expr) (at : ℕ) → e ≡ expr.Paren inner at → calls_in e ≡ calls_in inner
paren_calls e inner at is = ap calls_in (is ∙ shape.paren_form inner at)

-- a cast
pub cast_calls : (e : Expr) (kind : Kind) (inner : Expr) (at : ℕ) → e ≡ expr.Cast kind inner at → calls_in e ≡ calls_in inner
cast_calls e kind inner at is = ap calls_in (is ∙ shape.cast_form kind inner at)

-- a prefix operator
pub unary_calls : (e : Expr) (op : UnOp) (inner : Expr) (at : ℕ) → e ≡ expr.Unary op inner at → calls_in e ≡ calls_in inner
unary_calls e op inner at is = ap calls_in (is ∙ shape.unary_form op inner at)

-- a postfix operator
pub post_calls : (e : Expr) (up : Bool) (inner : Expr) (at : ℕ) → e ≡ expr.Post up inner at → calls_in e ≡ calls_in inner
post_calls e up inner at is = ap calls_in (is ∙ shape.post_form up inner at)

-- an element
pub index_calls : (e base index : Expr) (at : ℕ) → e ≡ expr.Index base index at → calls_in e ≡ calls_in base ++ calls_in index
index_calls e base index at is = ap calls_in (is ∙ shape.index_form base index at)

-- a member
pub member_calls : (e base : Expr) (part : Field) (at : ℕ) → e ≡ expr.Member base part at
    → calls_in e ≡ calls_in base ++ calls_in_field part
member_calls e base part at is = ap calls_in (is ∙ shape.member_form base part at)

-- bytes of the payload
pub bytes_calls : (part : Field) (kind : Kind) (index : Expr) (at : ℕ) → part ≡ field.Bytes kind index at
    → calls_in_field part ≡ calls_in index
bytes_calls part kind index at is = ap calls_in_field (is ∙ shape.bytes_form kind index at)

-- a binary operator
pub binary_calls : (e : Expr) (op : BinOp) (left right : Expr) (at : ℕ) → e ≡ expr.Binary op left right at
    → calls_in e ≡ calls_in left ++ calls_in right
binary_calls e op left right at is = ap calls_in (is ∙ shape.binary_form op left right at)

-- an assignment
pub assign_calls : (e : Expr) (op : Option BinOp) (left right : Expr) (at : ℕ) → e ≡ expr.Assign op left right at
    → calls_in e ≡ calls_in left ++ calls_in right
assign_calls e op left right at is = ap calls_in (is ∙ shape.assign_form op left right at)

-- a choice
pub cond_calls : (e test one other : Expr) (at : ℕ) → e ≡ expr.Cond test one other at
    → calls_in e ≡ calls_in test ++ (calls_in one ++ calls_in other)
cond_calls e test one other at is = ap calls_in (is ∙ shape.cond_form test one other at)

-- a row of expressions has what its list has
pub row-all : (n : _) (row : Row_of-Expr n) → calls_in_row row ≡ calls_in_all (items-the_row-Expr n row)
row-all n end_of-Expr = refl
row-all n (more_of-Expr e row) = ap (λ l. calls_in e ++ l) (row-all _ row)

-- the row in a call
abbrev args_of : Expr → (n : Count) × Row_of-Expr n
args_of (expr.Call' _ _ row _) = (_, row)
args_of _ = (_, end_of-Expr)

-- a call
pub call_calls : (e : Expr) (name : List ℕ) (args : List Expr) (at : ℕ) → e ≡ expr.Call name args at
    → calls_in e ≡ (name ∷ []) ++ calls_in_all args
call_calls e name args at is =
    let row = args_of (expr.Call name args at) in
    ap calls_in is ∙ ap (λ l. name ∷ l) (row-all row.0 row.1 ∙ ap calls_in_all (items_hidden-the_row-Expr-1 args))

-- each form of expression
pub ruleset in_form = (paren_calls, cast_calls, unary_calls, post_calls, index_calls, member_calls, bytes_calls, binary_calls, assign_calls, cond_calls, call_calls)

-- `while`
pub while_calls : (s : Stmt) (test : Expr) (body : Stmt) → s ≡ stmt.While test body → names_called s ≡ calls_in test ++ names_called body
while_calls s test body is = ap names_called (is ∙ shape.while_form test body)

-- `do`
pub do_calls : (s body : Stmt) (test : Expr) → s ≡ stmt.Do body test → names_called s ≡ names_called body ++ calls_in test
do_calls s body test is = ap names_called (is ∙ shape.do_form body test)

-- `for`
pub for_calls : (s : Stmt) (init test step : Option Expr) (body : Stmt) → s ≡ stmt.For init test step body
    → names_called s ≡ calls_in_part init ++ (calls_in_part test ++ (calls_in_part step ++ names_called body))
for_calls s init test step body is = ap names_called (is ∙ shape.for_form init test step body)

-- a row of statements has what its list has
row-list : (n : _) (row : Row_of-Stmt n) → calls_of_row row ≡ calls_of_all (items-the_row-Stmt n row)
row-list n end_of-Stmt = refl
row-list n (more_of-Stmt s row) = ap (λ l. names_called s ++ l) (row-list _ row)

-- the row in a block
abbrev body_of : Stmt → (n : Count) × Row_of-Stmt n
body_of (stmt.Block' _ row) = (_, row)
body_of _ = (_, end_of-Stmt)

-- a block
pub block_calls : (s : Stmt) (body : List Stmt) → s ≡ stmt.Block body → names_called s ≡ calls_of_all body
block_calls s body is =
    let row = body_of (stmt.Block body) in
    ap names_called is ∙ row-list row.0 row.1 ∙ ap calls_of_all (items_hidden-the_row-Stmt-0 body)

-- a row of arms
arms-list : (n : _) (row : Row_of-Arm n) → calls_of_arms row ≡ calls_of_list (items-the_row-Arm n row)
arms-list n end_of-Arm = refl
arms-list n (more_of-Arm test body row) =
    ap (λ l. calls_in test ++ (names_called body ++ l)) (arms-list _ row)
    ∙ sym (append_assoc (calls_in test) (names_called body) (calls_of_list (items-the_row-Arm _ row)))

-- the row in an `if`
abbrev arms_of : Stmt → (n : Count) × Row_of-Arm n
arms_of (stmt.If' _ row _) = (_, row)
arms_of _ = (_, end_of-Arm)

-- `if`
pub if_calls : (s : Stmt) (arms : List Arm) (other : Option Stmt) → s ≡ stmt.If arms other
    → names_called s ≡ calls_of_list arms ++ calls_of_other other
unfolding Rattle.capl_tree.specs.declared.statement.Stmt.TheBlock.hidden-the_row-Arm-1 denote.Hole.Carrier.hidden
if_calls s arms None is =
    let row = arms_of (stmt.If arms None) in
    ap names_called is
    ∙ ap (λ l. l ++ []) (arms-list row.0 row.1 ∙ ap calls_of_list (items_hidden-the_row-Arm-1 arms))
if_calls s arms (Some body) is =
    let row = arms_of (stmt.If arms (Some body)) in
    ap names_called is
    ∙ ap (λ l. l ++ names_called body) (arms-list row.0 row.1 ∙ ap calls_of_list (items_hidden-the_row-Arm-1 arms))

-- a row of groups
groups-list : (n : _) (row : Row_of-Group n) → calls_of_groups row ≡ calls_of_cases (items-the_row-Group n row)
groups-list n end_of-Group = refl
groups-list n (more_of-Group labels shape body row) =
    let list : List Stmt = shown-the_row-Stmt-0 shape body in
    let statements = row-list _ body ∙ ap calls_of_all (sym (items_shown-the_row-Stmt-0 shape body)) in
    ap (λ l. calls_in_labels labels ++ (l ++ calls_of_groups row)) statements
    ∙ ap (λ l. calls_in_labels labels ++ (calls_of_all list ++ l)) (groups-list _ row)
    ∙ sym (append_assoc (calls_in_labels labels) (calls_of_all list) (calls_of_cases (items-the_row-Group _ row)))

-- the row in a `switch`
abbrev groups_of : Stmt → (n : Count) × Row_of-Group n
groups_of (stmt.Switch' _ _ row) = (_, row)
groups_of _ = (_, end_of-Group)

-- `switch`
pub switch_calls : (s : Stmt) (on : Expr) (groups : List Group) → s ≡ stmt.Switch on groups
    → names_called s ≡ calls_in on ++ calls_of_cases groups
switch_calls s on groups is =
    let row = groups_of (stmt.Switch on groups) in
    ap names_called is
    ∙ ap (λ l. calls_in on ++ l) (groups-list row.0 row.1 ∙ ap calls_of_cases (items_hidden-the_row-Group-3 groups))

-- each form of statement
pub ruleset of_form = (while_calls, do_calls, for_calls, block_calls, if_calls, switch_calls)
