-- The declarations in each form of statement, as code makes it.
use mathlib.Core.Former.{Count}
use Rattle.std.proofs.Common.{◌≡◌, ◌++◌, ◌∙◌, List, [], Option, Some, None, ap, refl, sym}
use Rattle.capl_tree.specs.declared.expr.Expr.{Expr}
use Rattle.capl_tree.specs.declared.statement.Arm.{Arm}
use Rattle.capl_tree.specs.declared.statement.Group.{Group}
use Rattle.capl_tree.specs.declared.statement.Stmt.{Stmt, Row_of-Stmt, end_of-Stmt, more_of-Stmt}
use Rattle.capl_tree.specs.declared.statement.Stmt.TheBlock.{Row_of-Arm, end_of-Arm, more_of-Arm, Row_of-Group, end_of-Group, more_of-Group, items-the_row-Stmt, items-the_row-Arm, items-the_row-Group, items_hidden-the_row-Stmt-0, items_shown-the_row-Stmt-0, shown-the_row-Stmt-0, items_hidden-the_row-Arm-1, items_hidden-the_row-Group-3}
use Rattle.capl_tree.specs.declared.statement.Stmt.TheVariants as stmt
use Rattle.capl_tree.proofs.FormLemmas as shape
use Rattle.capl_meaning.specs.Variable.{declarations_in, declarations_of, declarations_of_arms, declarations_of_groups}
use Rattle.check_names.specs.Variable.{in_all, in_arms, in_else, in_groups}

-- `while`
pub while_declares : (s : Stmt) (test : Expr) (body : Stmt) → s ≡ stmt.While test body
    → declarations_in s ≡ declarations_in body
while_declares s test body is = ap declarations_in (is ∙ shape.while_form test body)

-- `do`
pub do_declares : (s body : Stmt) (test : Expr) → s ≡ stmt.Do body test → declarations_in s ≡ declarations_in body
do_declares s body test is = ap declarations_in (is ∙ shape.do_form body test)

-- `for`
pub for_declares : (s : Stmt) (init test step : Option Expr) (body : Stmt) → s ≡ stmt.For init test step body
    → declarations_in s ≡ declarations_in body
for_declares s init test step body is = ap declarations_in (is ∙ shape.for_form init test step body)

-- a row of statements has what its list has
row-list : (n : _) (row : Row_of-Stmt n) → declarations_of row ≡ in_all (items-the_row-Stmt n row)
row-list n end_of-Stmt = refl
row-list n (more_of-Stmt s row) = ap (λ ds. declarations_in s ++ ds) (row-list _ row)

-- the row in a block
abbrev body_of : Stmt → (n : Count) × Row_of-Stmt n
body_of (stmt.Block' _ row) = (_, row)
body_of _ = (_, end_of-Stmt)

-- a block
pub block_declares : (s : Stmt) (body : List Stmt) → s ≡ stmt.Block body → declarations_in s ≡ in_all body
block_declares s body is =
    let row = body_of (stmt.Block body) in
    ap declarations_in is ∙ row-list row.0 row.1 ∙ ap in_all (items_hidden-the_row-Stmt-0 body)

-- a row of arms
arms-list : (n : _) (row : Row_of-Arm n) → declarations_of_arms row ≡ in_arms (items-the_row-Arm n row)
arms-list n end_of-Arm = refl
arms-list n (more_of-Arm test body row) = ap (λ ds. declarations_in body ++ ds) (arms-list _ row)

-- the row in an `if`
abbrev arms_of : Stmt → (n : Count) × Row_of-Arm n
arms_of (stmt.If' _ row _) = (_, row)
arms_of _ = (_, end_of-Arm)

-- `if`
pub if_declares : (s : Stmt) (arms : List Arm) (other : Option Stmt) → s ≡ stmt.If arms other
    → declarations_in s ≡ in_arms arms ++ in_else other
unfolding Rattle.capl_tree.specs.declared.statement.Stmt.TheBlock.hidden-the_row-Arm-1 denote.Hole.Carrier.hidden
if_declares s arms None is =
    let row = arms_of (stmt.If arms None) in
    ap declarations_in is
    ∙ ap (λ ds. ds ++ []) (arms-list row.0 row.1 ∙ ap in_arms (items_hidden-the_row-Arm-1 arms))
if_declares s arms (Some body) is =
    let row = arms_of (stmt.If arms (Some body)) in
    ap declarations_in is
    ∙ ap (λ ds. ds ++ declarations_in body) (arms-list row.0 row.1 ∙ ap in_arms (items_hidden-the_row-Arm-1 arms))

-- a row of groups
groups-list : (n : _) (row : Row_of-Group n) → declarations_of_groups row ≡ in_groups (items-the_row-Group n row)
groups-list n end_of-Group = refl
groups-list n (more_of-Group labels shape body row) =
    let list : List Stmt = shown-the_row-Stmt-0 shape body in
    let statements = row-list _ body ∙ ap in_all (sym (items_shown-the_row-Stmt-0 shape body)) in
    ap (λ ds. ds ++ declarations_of_groups row) statements ∙ ap (λ ds. in_all list ++ ds) (groups-list _ row)

-- the row in a `switch`
abbrev groups_of : Stmt → (n : Count) × Row_of-Group n
groups_of (stmt.Switch' _ _ row) = (_, row)
groups_of _ = (_, end_of-Group)

-- `switch`
pub switch_declares : (s : Stmt) (on : Expr) (groups : List Group) → s ≡ stmt.Switch on groups
    → declarations_in s ≡ in_groups groups
switch_declares s on groups is =
    let row = groups_of (stmt.Switch on groups) in
    ap declarations_in is ∙ groups-list row.0 row.1 ∙ ap in_groups (items_hidden-the_row-Group-3 groups)

-- each form of one part
pub ruleset form = (while_declares, do_declares, for_declares, block_declares, switch_declares)
