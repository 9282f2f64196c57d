-- The weight of each form, as code makes it.
use mathlib.Core.Former.{Count}
use Rattle.std.proofs.Common.{◌≡◌, ◌+◌, ◌*◌, ◌∙◌, ◌==◌, length, ℕ, Bool, false, List, [], ◌∷◌, Option, Some, None, refl, ap, sym, arith}
use Rattle.std.specs.Prelude.{sum_by}
use Rattle.std.proofs.lemmas.Bool.Decides.{nat_tests}
use Rattle.std.proofs.lemmas.List.Sums.{sum_by-cons}
use Rattle.texts.specs.declared.text.Text.{Text}
use Rattle.int_kinds.specs.declared.kinds.Kind.{Kind}
use Rattle.int_kinds.specs.declared.operators.BinOp.{BinOp}
use Rattle.int_kinds.specs.declared.operators.UnOp.{UnOp}
use Rattle.capl_tree.specs.declared.expr.Expr.{Expr, Row_of-Expr, end_of-Expr, more_of-Expr, items-the_row-Expr, items_hidden-the_row-Expr-1}
use Rattle.capl_tree.specs.declared.expr.Expr.TheVariants as expr
use Rattle.capl_tree.specs.declared.expr.Field.{Field}
use Rattle.capl_tree.specs.declared.expr.Field.TheVariants as field
use Rattle.capl_tree.specs.declared.statement.Stmt.{Stmt, Row_of-Stmt, end_of-Stmt, more_of-Stmt}
use Rattle.capl_tree.specs.declared.statement.Stmt.TheBlock.{Row_of-Arm, end_of-Arm, more_of-Arm, Row_of-Group, end_of-Group, more_of-Group, items-the_row-Stmt, items-the_row-Arm, items-the_row-Group, items_hidden-the_row-Stmt-0, items_shown-the_row-Stmt-0, shown-the_row-Stmt-0, items_hidden-the_row-Arm-1, items_hidden-the_row-Group-3}
use Rattle.capl_tree.specs.declared.statement.Stmt.TheVariants as stmt
use Rattle.capl_tree.specs.declared.statement.Arm.{Arm}
use Rattle.capl_tree.specs.declared.statement.Group.{Group}
use Rattle.capl_tree.specs.Weight.{saturated, expression_weight, expressions_weight, field_weight, part_weight, statement_weight, statements_weight, arms_weight, further_arms_weight, groups_weight}
use Rattle.capl_tree.specs.Inside.Weight.{arm_weight, other_weight, group_weight}
use Rattle.capl_tree.specs.Inside.Weight as of
use Rattle.capl_tree.proofs.FormLemmas as form

-- A sum of 64 bits.

-- 8 and two parts
pub node_weight : (total one other first second result : ℕ) → total ≡ 8 + one + other
    → first ≡ saturated one → second ≡ saturated other → result ≡ saturated (8 + first + second)
    → result ≡ saturated total
node_weight total one other first second result is is_first is_second sum = grind (arith, nat_tests)

-- two parts
pub pair_weight : (total one other first second result : ℕ) → total ≡ one + other
    → first ≡ saturated one → second ≡ saturated other → result ≡ saturated (first + second)
    → result ≡ saturated total
pair_weight total one other first second result is is_first is_second sum = grind (arith, nat_tests)

-- Expressions.

-- an expression between parentheses
pub paren_weight : (e inner : Expr) (at : ℕ) → e ≡ expr.Paren inner at
    → expression_weight e ≡ 8 + expression_weight inner
paren_weight e inner at is = ap expression_weight (is ∙ form.paren_form inner at)

-- an element
pub index_weight : (e base index : Expr) (at : ℕ) → e ≡ expr.Index base index at
    → expression_weight e ≡ 8 + expression_weight base + expression_weight index
index_weight e base index at is = ap expression_weight (is ∙ form.index_form base index at)

-- a member
pub member_weight : (e base : Expr) (field : Field) (at : ℕ) → e ≡ expr.Member base field at
    → expression_weight e ≡ 8 + expression_weight base + field_weight field
member_weight e base field at is = ap expression_weight (is ∙ form.member_form base field at)

-- bytes of the payload
pub bytes_weight : (f : Field) (kind : Kind) (index : Expr) (at : ℕ) → f ≡ field.Bytes kind index at
    → field_weight f ≡ expression_weight index
bytes_weight f kind index at is = ap field_weight (is ∙ form.bytes_form kind index at)

-- a cast
pub cast_weight : (e : Expr) (kind : Kind) (inner : Expr) (at : ℕ) → e ≡ expr.Cast kind inner at
    → expression_weight e ≡ 8 + expression_weight inner
cast_weight e kind inner at is = ap expression_weight (is ∙ form.cast_form kind inner at)

-- a prefix operator
pub unary_weight : (e : Expr) (op : UnOp) (inner : Expr) (at : ℕ) → e ≡ expr.Unary op inner at
    → expression_weight e ≡ 8 + expression_weight inner
unary_weight e op inner at is = ap expression_weight (is ∙ form.unary_form op inner at)

-- a postfix operator
pub post_weight : (e : Expr) (up : Bool) (inner : Expr) (at : ℕ) → e ≡ expr.Post up inner at
    → expression_weight e ≡ 8 + expression_weight inner
post_weight e up inner at is = ap expression_weight (is ∙ form.post_form up inner at)

-- a binary operator
pub binary_weight : (e : Expr) (op : BinOp) (left right : Expr) (at : ℕ) → e ≡ expr.Binary op left right at
    → expression_weight e ≡ 8 + expression_weight left + expression_weight right
binary_weight e op left right at is = ap expression_weight (is ∙ form.binary_form op left right at)

-- a choice
pub cond_weight : (e test one other : Expr) (at : ℕ) → e ≡ expr.Cond test one other at
    → expression_weight e ≡ 8 + (expression_weight test + expression_weight one) + expression_weight other
cond_weight e test one other at is =
    let sum = ap expression_weight (is ∙ form.cond_form test one other at) in omega (arith, sum)

-- an assignment
pub assign_weight : (e : Expr) (op : Option BinOp) (left right : Expr) (at : ℕ) → e ≡ expr.Assign op left right at
    → expression_weight e ≡ 8 + expression_weight left + expression_weight right
assign_weight e op left right at is = ap expression_weight (is ∙ form.assign_form op left right at)

-- a row of expressions weighs what its list does
expressions-list : (n : _) (row : Row_of-Expr n)
    → expressions_weight row ≡ sum_by expression_weight (items-the_row-Expr n row)
expressions-list n end_of-Expr = refl
expressions-list n (more_of-Expr e row) =
    ap (λ w. expression_weight e + w) (expressions-list _ row) ∙ sym (sum_by-cons expression_weight e (items-the_row-Expr _ row))

-- the row in a call
abbrev arguments_of : Expr → (n : Count) × Row_of-Expr n
arguments_of (expr.Call' _ _ row _) = (_, row)
arguments_of _ = (_, end_of-Expr)

-- a call
pub call_weight : (e : Expr) (name : Text) (args : List Expr) (at : ℕ) → e ≡ expr.Call name args at
    → expression_weight e ≡ 8 + sum_by expression_weight args
call_weight e name args at is =
    let row = arguments_of (expr.Call name args at) in
    ap expression_weight is
    ∙ ap (λ w. 8 + w) (expressions-list row.0 row.1 ∙ ap (sum_by expression_weight) (items_hidden-the_row-Expr-1 args))

-- Statements.

-- `while`
pub while_weight : (s : Stmt) (test : Expr) (body : Stmt) → s ≡ stmt.While test body
    → statement_weight s ≡ 8 + expression_weight test + statement_weight body
while_weight s test body is = ap statement_weight (is ∙ form.while_form test body)

-- `do`
pub do_weight : (s body : Stmt) (test : Expr) → s ≡ stmt.Do body test
    → statement_weight s ≡ 8 + statement_weight body + expression_weight test
do_weight s body test is = ap statement_weight (is ∙ form.do_form body test)

-- `for`
pub for_weight : (s : Stmt) (init test step : Option Expr) (body : Stmt) → s ≡ stmt.For init test step body
    → statement_weight s ≡ 8 + (part_weight init + part_weight test) + (part_weight step + statement_weight body)
for_weight s init test step body is =
    let sum = ap statement_weight (is ∙ form.for_form init test step body) in omega (arith, sum)

-- a row of statements weighs what its list does
statements-list : (n : _) (row : Row_of-Stmt n)
    → statements_weight row ≡ sum_by statement_weight (items-the_row-Stmt n row)
statements-list n end_of-Stmt = refl
statements-list n (more_of-Stmt s row) =
    ap (λ w. statement_weight s + w) (statements-list _ row) ∙ sym (sum_by-cons statement_weight s (items-the_row-Stmt _ row))

-- the row in a block
abbrev body_of : Stmt → (n : Count) × Row_of-Stmt n
body_of (stmt.Block' _ row) = (_, row)
body_of _ = (_, end_of-Stmt)

-- a block
pub block_weight : (s : Stmt) (body : List Stmt) → s ≡ stmt.Block body
    → statement_weight s ≡ 8 + sum_by statement_weight body
block_weight s body is =
    let row = body_of (stmt.Block body) in
    ap statement_weight is
    ∙ ap (λ w. 8 + w) (statements-list row.0 row.1 ∙ ap (sum_by statement_weight) (items_hidden-the_row-Stmt-0 body))

-- a row of arms after the first weighs what its list does
further-list : (n : _) (row : Row_of-Arm n) → further_arms_weight row ≡ sum_by arm_weight (items-the_row-Arm n row)
further-list n end_of-Arm = refl
further-list n (more_of-Arm test body row) =
    ap (λ w. 8 + expression_weight test + statement_weight body + w) (further-list _ row)
    ∙ sym (sum_by-cons arm_weight (record { test = test; body = body }) (items-the_row-Arm _ row))

-- an `if` and a row of arms weigh what the list does
arms-list : (n : _) (row : Row_of-Arm n) → 8 + arms_weight row ≡ of.if_weight (items-the_row-Arm n row)
arms-list n end_of-Arm = refl
arms-list n (more_of-Arm test body row) =
    let rest = further-list _ row in
    let sum : 8 + (expression_weight test + statement_weight body + further_arms_weight row)
    ≡ 8 + expression_weight test + statement_weight body + sum_by arm_weight (items-the_row-Arm _ row) = omega (arith, rest) in
    sum ∙ sym (sum_by-cons arm_weight (record { test = test; body = body }) (items-the_row-Arm _ row))

-- some arms weigh their sum
pub arms_weight-some : (arms : List Arm) → (length arms == 0) ≡ false → of.if_weight arms ≡ sum_by arm_weight arms
arms_weight-some [] none = cc
arms_weight-some (arm ∷ arms) some = refl

-- the row in an `if`
abbrev arms_of : Stmt → (n : Count) × Row_of-Arm n
arms_of (stmt.If' _ row _) = (_, row)
arms_of _ = (_, end_of-Arm)

-- an `if` and its arms weigh what their list does
arms-weight : (arms : List Arm) (n : Count) (row : Row_of-Arm n) → items-the_row-Arm n row ≡ arms
    → 8 + arms_weight row ≡ of.if_weight arms
arms-weight arms n row same = arms-list n row ∙ ap of.if_weight same

-- `if`
pub if_weight : (s : Stmt) (arms : List Arm) (other : Option Stmt) → s ≡ stmt.If arms other
    → statement_weight s ≡ of.if_weight arms + other_weight other
unfolding Rattle.capl_tree.specs.declared.statement.Stmt.TheBlock.hidden-the_row-Arm-1 denote.Hole.Carrier.hidden
if_weight s arms None is =
    let row = arms_of (stmt.If arms None) in
    ap statement_weight is ∙ ap (λ w. w + 0) (arms-weight arms row.0 row.1 (items_hidden-the_row-Arm-1 arms))
if_weight s arms (Some body) is =
    let row = arms_of (stmt.If arms (Some body)) in
    ap statement_weight is
    ∙ ap (λ w. w + statement_weight body) (arms-weight arms row.0 row.1 (items_hidden-the_row-Arm-1 arms))

-- a row of groups weighs what its list does
groups-list : (n : _) (row : Row_of-Group n) → groups_weight row ≡ sum_by group_weight (items-the_row-Group n row)
groups-list n end_of-Group = refl
groups-list n (more_of-Group labels shape body row) =
    let list : List Stmt = shown-the_row-Stmt-0 shape body in
    let statements = statements-list _ body ∙ ap (sum_by statement_weight) (sym (items_shown-the_row-Stmt-0 shape body)) in
    let all = sum_by-cons group_weight (record { labels = labels; body = list }) (items-the_row-Group _ row) in
    ap (λ w. 8 * length labels + w + groups_weight row) statements
    ∙ ap (λ w. 8 * length labels + sum_by statement_weight list + w) (groups-list _ row) ∙ sym all

-- the row in a `switch`
abbrev groups_of : Stmt → (n : Count) × Row_of-Group n
groups_of (stmt.Switch' _ _ row) = (_, row)
groups_of _ = (_, end_of-Group)

-- `switch`
pub switch_weight : (s : Stmt) (on : Expr) (groups : List Group) → s ≡ stmt.Switch on groups
    → statement_weight s ≡ 8 + expression_weight on + sum_by group_weight groups
switch_weight s on groups is =
    let row = groups_of (stmt.Switch on groups) in
    ap statement_weight is
    ∙ ap (λ w. 8 + expression_weight on + w)
    (groups-list row.0 row.1 ∙ ap (sum_by group_weight) (items_hidden-the_row-Group-3 groups))
