-- What a statement holds as a row, and as a list: the same notes.
use mathlib.Core.Former.{Count}
use Rattle.std.specs.Prelude.{◌≡◌, ℕ, Bool, true, false, ◌&&◌, if◌then◌else◌, List, [], ◌∷◌, ◌++◌, sum, sum_by, take, Option, Some, None}
use Rattle.std.proofs.Common.{refl, ap, sym, ◌∙◌}
use Rattle.typed_tree.specs.declared.expression.TExpr.{TExpr}
use Rattle.typed_tree.specs.declared.statement.TArm.{TArm}
use Rattle.typed_tree.specs.declared.statement.TGroup.{TGroup}
use Rattle.typed_tree.specs.declared.statement.TStmt.{TStmt, Row_of-TStmt, end_of-TStmt, more_of-TStmt, items-the_row-TStmt}
use Rattle.typed_tree.specs.declared.statement.TStmt.TheVariants as stmt
use Rattle.typed_tree.specs.declared.statement.TStmt.TheBlock.{Row_of-TArm, end_of-TArm, more_of-TArm, Row_of-TGroup, end_of-TGroup, more_of-TGroup, items-the_row-TArm, items-the_row-TGroup, items_hidden-the_row-TStmt-0, items_shown-the_row-TStmt-0, shown-the_row-TStmt-0, items_hidden-the_row-TArm-1, items_hidden-the_row-TGroup-3}
use Rattle.typed_tree.specs.declared.program.Typed.{Typed}
use Rattle.typed_tree.specs.Shape.{is_break, is_end, is_end_of_groups}
use Rattle.typed_tree.specs.Size.{group_sizes, last_group_size, stmt_size, stmts_size}
use Rattle.typed_tree.specs.Statement.{default_group}
use Rattle.code_size.specs.declared.extent.Extent.{Extent}
use Rattle.code_size.specs.Notes.{all_notes, arms_notes, arms_notes_of, going_on, group_notes, groups_notes, groups_notes_of, inside_notes, last_notes, notes_of, part_notes_of, row_notes, switch_notes_of}
use Rattle.code_size.specs.Rows.{group_sizes_of, is_nil, kept, kept_if, labels_of_groups, part_size_of}
use Rattle.code_size.proofs.Rows.{block_row, default_before, group_size-list, group_sizes-list, if_row, if_same, is_end-list, is_end_of_groups-list, labels-list, of_choice, switch_row}

-- Statements in a row.

row_notes-list : (typed : Typed) (n : Count) (row : Row_of-TStmt n) → row_notes typed row ≡ all_notes typed (items-the_row-TStmt n row)
row_notes-list typed n end_of-TStmt = refl
row_notes-list typed n (more_of-TStmt s rest) = ap (λ l. l ++ notes_of typed s) (row_notes-list typed _ rest)

-- the notes of what is in a block
pub block_notes : (typed : Typed) (s : TStmt) (all : List TStmt) → s ≡ stmt.Block all → inside_notes typed s ≡ all_notes typed all
block_notes typed s all is =
    let row = block_row (stmt.Block all) in
    ap (inside_notes typed) is ∙ row_notes-list typed row.0 row.1 ∙
    ap (all_notes typed) (items_hidden-the_row-TStmt-0 all)

-- Arms.

arms_notes-list : (typed : Typed) (n : Count) (row : Row_of-TArm n) → arms_notes typed row ≡ arms_notes_of typed (items-the_row-TArm n row)
arms_notes-list typed n end_of-TArm = refl
arms_notes-list typed n (more_of-TArm test body rest) = ap (λ l. l ++ notes_of typed body) (arms_notes-list typed _ rest)

-- the notes of what is in an `if`
pub if_notes : (typed : Typed) (s : TStmt) (arms : List TArm) (other : Option TStmt) → s ≡ stmt.If arms other →
    inside_notes typed s ≡ part_notes_of typed other ++ arms_notes_of typed arms
unfolding Rattle.typed_tree.specs.declared.statement.TStmt.TheBlock.hidden-the_row-TArm-1 denote.Hole.Carrier.hidden
if_notes typed s arms None is =
    let row = if_row (stmt.If arms None) in
    ap (inside_notes typed) is ∙ arms_notes-list typed row.0 row.1 ∙
    ap (arms_notes_of typed) (items_hidden-the_row-TArm-1 arms)
if_notes typed s arms (Some part) is =
    let row = if_row (stmt.If arms (Some part)) in
    ap (inside_notes typed) is ∙ ap (λ l. notes_of typed part ++ l)
    (arms_notes-list typed row.0 row.1 ∙ ap (arms_notes_of typed) (items_hidden-the_row-TArm-1 arms))

-- Groups.

last_notes-list : (typed : Typed) (n : Count) (row : Row_of-TStmt n) → last_notes typed row ≡ all_notes typed (kept (items-the_row-TStmt n row))
last_notes-list typed n end_of-TStmt = refl
last_notes-list typed n (more_of-TStmt s rest) =
    if_same (is_break s && is_nil (items-the_row-TStmt _ rest)) (is_break s && is_end rest) [] _ _
    (ap (λ b. is_break s && b) (is_end-list _ rest))
    (ap (λ l. l ++ notes_of typed s) (last_notes-list typed _ rest)) ∙
    of_choice (all_notes typed) (is_break s && is_nil (items-the_row-TStmt _ rest)) [] (s ∷ kept (items-the_row-TStmt _ rest))

-- the notes of the statements of a group, the last one or not
kept_notes-list : (typed : Typed) (last : Bool) (n : Count) (row : Row_of-TStmt n) →
    (if last then last_notes typed row else row_notes typed row) ≡ all_notes typed (kept_if last (items-the_row-TStmt n row))
kept_notes-list typed true n row = last_notes-list typed n row
kept_notes-list typed false n row = row_notes-list typed n row

groups_notes-list : (typed : Typed) (n : Count) (row : Row_of-TGroup n) →
    groups_notes typed row ≡ groups_notes_of typed (items-the_row-TGroup n row)
groups_notes-list typed n end_of-TGroup = refl
groups_notes-list typed n (more_of-TGroup labels shape body rest) =
    let list : List TStmt = shown-the_row-TStmt-0 shape body in
    let last : Bool = is_nil (items-the_row-TGroup _ rest) in
    let size : ℕ = (if is_end_of_groups rest then last_group_size typed body else stmts_size typed body) in
    let inside : List Extent = (if is_end_of_groups rest then last_notes typed body else row_notes typed body) in
    let behind : List Extent = groups_notes_of typed (items-the_row-TGroup _ rest) in
    ap (λ l. l ++ group_notes inside size) (groups_notes-list typed _ rest) ∙
    ap (λ l. behind ++ group_notes l size)
    (kept_notes-list typed (is_end_of_groups rest) _ body ∙
    ap (λ b. all_notes typed (kept_if b (items-the_row-TStmt _ body))) (is_end_of_groups-list _ rest) ∙
    ap (λ l. all_notes typed (kept_if last l)) (sym (items_shown-the_row-TStmt-0 shape body))) ∙
    ap (λ k. behind ++ group_notes (all_notes typed (kept_if last list)) k)
    (group_size-list typed (is_end_of_groups rest) _ body ∙
    ap (λ b. sum_by (stmt_size typed) (kept_if b (items-the_row-TStmt _ body))) (is_end_of_groups-list _ rest) ∙
    ap (λ l. sum_by (stmt_size typed) (kept_if last l)) (sym (items_shown-the_row-TStmt-0 shape body)))

-- the notes of what is in a `switch`
pub switch_notes : (typed : Typed) (s : TStmt) (on : TExpr) (groups : List TGroup) → s ≡ stmt.Switch on groups →
    inside_notes typed s ≡ switch_notes_of typed groups
switch_notes typed s on groups is =
    let row = switch_row (stmt.Switch on groups) in
    let all = items_hidden-the_row-TGroup-3 groups in
    let behind : List Extent = groups_notes typed row.1 in
    let over : List ℕ → ℕ = λ sizes. sum (take (default_group (labels_of_groups groups)) sizes) in
    ap (inside_notes typed) is ∙
    ap (λ l. behind ++ going_on (sum (take (default_group l) (group_sizes typed row.1))) ∷ [])
    (labels-list row.0 row.1 ∙ ap labels_of_groups all) ∙
    ap (λ l. behind ++ going_on (over l) ∷ []) (group_sizes-list typed row.0 row.1 ∙ ap (group_sizes_of typed) all) ∙
    ap (λ k. behind ++ going_on k ∷ []) (default_before (labels_of_groups groups) (group_sizes_of typed groups)) ∙
    ap (λ l. l ++ going_on (Rattle.code_size.specs.Rows.before_default (labels_of_groups groups) (group_sizes_of typed groups)) ∷ [])
    (groups_notes-list typed row.0 row.1 ∙ ap (groups_notes_of typed) all)

-- the notes of what is in a `for`
pub for_notes : (typed : Typed) (s : TStmt) (init : Option TStmt) (test : Option TExpr) (step : Option TStmt) (body : TStmt) →
    s ≡ stmt.For init test step body → inside_notes typed s ≡ part_notes_of typed step ++
    (notes_of typed body ++ (part_notes_of typed init ++ going_on (part_size_of typed step) ∷ []))
unfolding Rattle.typed_tree.specs.declared.statement.TStmt.TheBlock.hidden-the_row-TStmt-2 denote.Hole.Carrier.hidden
for_notes typed s None test None body is = ap (inside_notes typed) is
for_notes typed s None test (Some step) body is = ap (inside_notes typed) is
for_notes typed s (Some init) test None body is = ap (inside_notes typed) is
for_notes typed s (Some init) test (Some step) body is = ap (inside_notes typed) is

-- the notes of what is in a `while`
pub while_notes : (typed : Typed) (s : TStmt) (test : TExpr) (body : TStmt) → s ≡ stmt.While test body →
    inside_notes typed s ≡ notes_of typed body
unfolding Rattle.typed_tree.specs.declared.statement.TStmt.TheBlock.hidden-the_row-TStmt-2 denote.Hole.Carrier.hidden
while_notes typed s test body is = ap (inside_notes typed) is

-- the notes of what is in a `do`
pub do_notes : (typed : Typed) (s : TStmt) (test : TExpr) (body : TStmt) → s ≡ stmt.Do body test →
    inside_notes typed s ≡ notes_of typed body
unfolding Rattle.typed_tree.specs.declared.statement.TStmt.TheBlock.hidden-the_row-TStmt-2 denote.Hole.Carrier.hidden
do_notes typed s test body is = ap (inside_notes typed) is
