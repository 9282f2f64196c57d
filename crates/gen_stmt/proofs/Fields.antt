-- The cells of message fields in what a statement holds, as a row and as a list.
use mathlib.Core.Former.{Count}
use Rattle.std.specs.Prelude.{◌≡◌, List, Option, Some, None, IfSome, All}
use Rattle.std.proofs.Common.{sym, subst}
use Rattle.std.proofs.lemmas.List.Elements.{All-cons, All-nil}
use Rattle.typed_tree.specs.declared.expression.TExpr.{TExpr}
use Rattle.typed_tree.specs.declared.statement.TArm.{TArm}
use Rattle.typed_tree.specs.declared.statement.TGroup.{TGroup}
use Rattle.typed_tree.specs.declared.statement.TStmt.{TStmt, Row_of-TStmt, end_of-TStmt, more_of-TStmt, items-the_row-TStmt}
use Rattle.typed_tree.specs.declared.statement.TStmt.TheVariants as stmt
use Rattle.typed_tree.specs.declared.statement.TStmt.TheBlock.{Row_of-TArm, end_of-TArm, more_of-TArm, Row_of-TGroup, end_of-TGroup, more_of-TGroup, items-the_row-TArm, items-the_row-TGroup, items_hidden-the_row-TStmt-0, items_shown-the_row-TStmt-0, items_hidden-the_row-TArm-1, items_hidden-the_row-TGroup-3}
use Rattle.code_size.proofs.Rows.{block_row, if_row, switch_row}
use Rattle.gen_expr.specs.Fields.{HasFieldCells}
use Rattle.gen_stmt.specs.Inside.Fields.{ArmHasFieldCells, ArmsHaveFieldCells, BodyHasFieldCells, GroupHasFieldCells, GroupsHaveFieldCells, OptionHasFieldCells, StmtHasFieldCells, StmtsHaveFieldCells}

-- statements in a row
row_fields : (n : Count) (row : Row_of-TStmt n) → StmtsHaveFieldCells row → BodyHasFieldCells (items-the_row-TStmt n row)
row_fields n end_of-TStmt h = All-nil StmtHasFieldCells
row_fields n (more_of-TStmt s rest) h = All-cons StmtHasFieldCells s (items-the_row-TStmt _ rest) h.0 (row_fields _ rest h.1)

-- the statements of a block
pub block_fields : (s : TStmt) (all : List TStmt) → s ≡ stmt.Block all → StmtHasFieldCells s → BodyHasFieldCells all
block_fields s all is h =
    let row = block_row (stmt.Block all) in
    subst BodyHasFieldCells (items_hidden-the_row-TStmt-0 all) (row_fields row.0 row.1 (subst StmtHasFieldCells is h))

-- arms in a row
arms_fields : (n : Count) (row : Row_of-TArm n) → ArmsHaveFieldCells row → All ArmHasFieldCells (items-the_row-TArm n row)
arms_fields n end_of-TArm h = All-nil ArmHasFieldCells
arms_fields n (more_of-TArm test body rest) h =
    All-cons ArmHasFieldCells (record { test = test; body = body }) (items-the_row-TArm _ rest) (h.0, h.1) (arms_fields _ rest h.2)

-- the arms of an `if` and what stands behind them
pub if_fields : (s : TStmt) (arms : List TArm) (other : Option TStmt) → s ≡ stmt.If arms other →
    StmtHasFieldCells s → All ArmHasFieldCells arms × IfSome other StmtHasFieldCells
unfolding Rattle.typed_tree.specs.declared.statement.TStmt.TheBlock.hidden-the_row-TArm-1 denote.Hole.Carrier.hidden
if_fields s arms None is h =
    let row = if_row (stmt.If arms None) in
    let here = subst StmtHasFieldCells is h in
    (subst (All ArmHasFieldCells) (items_hidden-the_row-TArm-1 arms) (arms_fields row.0 row.1 here.0), here.1)
if_fields s arms (Some part) is h =
    let row = if_row (stmt.If arms (Some part)) in
    let here = subst StmtHasFieldCells is h in
    (subst (All ArmHasFieldCells) (items_hidden-the_row-TArm-1 arms) (arms_fields row.0 row.1 here.0), here.1)

-- groups in a row
groups_fields : (n : Count) (row : Row_of-TGroup n) → GroupsHaveFieldCells row → All GroupHasFieldCells (items-the_row-TGroup n row)
groups_fields n end_of-TGroup h = All-nil GroupHasFieldCells
groups_fields n (more_of-TGroup labels shape body rest) h =
    All-cons GroupHasFieldCells _ (items-the_row-TGroup _ rest)
    (subst BodyHasFieldCells (sym (items_shown-the_row-TStmt-0 shape body)) (row_fields _ body h.0)) (groups_fields _ rest h.1)

-- what a `switch` decides by and its groups
pub switch_fields : (s : TStmt) (on : TExpr) (groups : List TGroup) → s ≡ stmt.Switch on groups →
    StmtHasFieldCells s → HasFieldCells on × All GroupHasFieldCells groups
switch_fields s on groups is h =
    let row = switch_row (stmt.Switch on groups) in
    let here = subst StmtHasFieldCells is h in
    (here.0, subst (All GroupHasFieldCells) (items_hidden-the_row-TGroup-3 groups) (groups_fields row.0 row.1 here.1))

-- the parts of a `for`
pub for_fields : (s : TStmt) (init : Option TStmt) (test : Option TExpr) (step : Option TStmt) (body : TStmt) →
    s ≡ stmt.For init test step body → StmtHasFieldCells s →
    IfSome init StmtHasFieldCells × OptionHasFieldCells test × IfSome step StmtHasFieldCells × StmtHasFieldCells body
unfolding Rattle.typed_tree.specs.declared.statement.TStmt.TheBlock.hidden-the_row-TStmt-2 denote.Hole.Carrier.hidden
for_fields s None test None body is h = subst StmtHasFieldCells is h
for_fields s None test (Some step) body is h = subst StmtHasFieldCells is h
for_fields s (Some init) test None body is h = subst StmtHasFieldCells is h
for_fields s (Some init) test (Some step) body is h = subst StmtHasFieldCells is h

-- the test and the body of a `while`
pub while_fields : (s : TStmt) (test : TExpr) (body : TStmt) → s ≡ stmt.While test body → StmtHasFieldCells s →
    HasFieldCells test × StmtHasFieldCells body
unfolding Rattle.typed_tree.specs.declared.statement.TStmt.TheBlock.hidden-the_row-TStmt-2 denote.Hole.Carrier.hidden
while_fields s test body is h = subst StmtHasFieldCells is h

-- the test and the body of a `do`
pub do_fields : (s : TStmt) (test : TExpr) (body : TStmt) → s ≡ stmt.Do body test → StmtHasFieldCells s →
    HasFieldCells test × StmtHasFieldCells body
unfolding Rattle.typed_tree.specs.declared.statement.TStmt.TheBlock.hidden-the_row-TStmt-2 denote.Hole.Carrier.hidden
do_fields s test body is h = let here = subst StmtHasFieldCells is h in (here.1, here.0)
