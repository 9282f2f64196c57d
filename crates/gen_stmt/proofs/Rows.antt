-- What a statement holds as a row, and as a list: the same code.
use mathlib.Core.Former.{Count}
use Rattle.std.specs.Prelude.{◌≡◌, ℕ, ◌+◌, Bool, true, false, ◌&&◌, if◌then◌else◌, List, [], ◌∷◌, ◌++◌, sum, sum_by, take, ℤ, Option, Some, None}
use Rattle.std.proofs.Common.{refl, ap, sym, ◌∙◌}
use Rattle.typed_tree.specs.declared.statement.TArm.{TArm}
use Rattle.typed_tree.specs.declared.statement.TGroup.{TGroup}
use Rattle.typed_tree.specs.declared.statement.TStmt.{TStmt, Row_of-TStmt, end_of-TStmt, more_of-TStmt, items-the_row-TStmt}
use Rattle.typed_tree.specs.declared.statement.TStmt.TheVariants as stmt
use Rattle.typed_tree.specs.declared.statement.TStmt.TheVariants.{Block', If', Switch'}
use Rattle.typed_tree.specs.declared.statement.TStmt.TheBlock.{Row_of-TArm, end_of-TArm, more_of-TArm, Row_of-TGroup, end_of-TGroup, more_of-TGroup, items-the_row-TArm, items-the_row-TGroup, items_hidden-the_row-TStmt-0, items_shown-the_row-TStmt-0, shown-the_row-TStmt-0, items_hidden-the_row-TArm-1, items_hidden-the_row-TGroup-3}
use Rattle.typed_tree.specs.declared.expression.TExpr.{TExpr}
use Rattle.typed_tree.specs.declared.program.Typed.{Typed}
use Rattle.typed_tree.specs.Shape.{goes_on, is_break, is_end, is_end_of_groups}
use Rattle.typed_tree.specs.Size.{arms_size, case_count, for_test_size, group_sizes, jump_size, last_group_size, stmt_size, stmts_size, test_size, value_size}
use Rattle.bytecode.specs.declared.instr.Instr.TheVariants as instr
use Rattle.typed_tree.specs.Statement.{default_group}
use Rattle.code_listing.specs.Exit.{Forward}
use Rattle.code_listing.specs.Expression.{test_code, value_code}
use Rattle.code_listing.specs.Listing.{Listing, jump_code}
use Rattle.code_listing.specs.Program.{body_code}
use Rattle.code_listing.specs.Statement.{Exits, arms_code, cases_code, for_test_code, groups_code, last_group_code, loop_code, stmt_code, stmts_code}
use Rattle.gen_stmt.specs.Inside.Rows.{arms_code_of, groups_code_of, part_code_of, switch_code_of}
use Rattle.code_size.proofs.Rows.{arms_size-list, block_row, default_before, group_size-list, group_sizes-list, if_row, if_same, is_end-list, is_end_of_groups-list, labels-list, of_choice, switch_row}
use Rattle.code_size.specs.Rows.{before_default, case_count_of, group_sizes_of, is_nil, kept, kept_if, labels_of_groups, part_size_of}

-- Statements in a row.

stmts_code-list : (typed : Typed) (exits : Exits) (n : Count) (row : Row_of-TStmt n) (place : ℕ) →
    stmts_code typed exits row place ≡ body_code typed exits (items-the_row-TStmt n row) place
stmts_code-list typed exits n end_of-TStmt place = refl
stmts_code-list typed exits n (more_of-TStmt s rest) place =
    ap (λ l. stmt_code typed exits s place ++ l) (stmts_code-list typed exits _ rest (place + stmt_size typed s))

-- the code of a block
pub block_code : (typed : Typed) (exits : Exits) (s : TStmt) (all : List TStmt) (place : ℕ) → s ≡ stmt.Block all →
    stmt_code typed exits s place ≡ body_code typed exits all place
block_code typed exits s all place is =
    let row = block_row (stmt.Block all) in
    ap (λ s. stmt_code typed exits s place) is ∙ stmts_code-list typed exits row.0 row.1 place ∙
    ap (λ l. body_code typed exits l place) (items_hidden-the_row-TStmt-0 all)

-- Arms.

arms_code-list : (typed : Typed) (exits : Exits) (n : Count) (row : Row_of-TArm n) (size : ℕ)
    (other : ℕ → Listing) (place : ℕ) →
    arms_code typed exits row size other place ≡ arms_code_of typed exits (items-the_row-TArm n row) size other place
arms_code-list typed exits n end_of-TArm size other place = refl
arms_code-list typed exits n (more_of-TArm test body rest) size other place =
    let body_at : ℕ = place + test_size typed false false test in
    let jump_at : ℕ = body_at + stmt_size typed body in
    let next : ℕ → ℕ = λ behind. jump_at + (if goes_on body then jump_size behind else 0) in
    let whole : ℕ → Listing → Listing = λ behind l. test_code typed false (Forward (next behind)) test place 0 ++
    (stmt_code typed exits body body_at ++ ((if goes_on body then jump_code behind jump_at else []) ++ l)) in
    ap (λ l. whole (arms_size typed rest size) l)
    (arms_code-list typed exits _ rest size other (next (arms_size typed rest size))) ∙
    ap (λ behind. whole behind (arms_code_of typed exits (items-the_row-TArm _ rest) size other (next behind)))
    (arms_size-list typed _ rest size)

-- the code of an `if`
pub if_code : (typed : Typed) (exits : Exits) (s : TStmt) (arms : List TArm) (other : Option TStmt) (place : ℕ) →
    s ≡ stmt.If arms other → stmt_code typed exits s place ≡
    arms_code_of typed exits arms (part_size_of typed other) (part_code_of typed exits other) place
unfolding Rattle.typed_tree.specs.declared.statement.TStmt.TheBlock.hidden-the_row-TArm-1 denote.Hole.Carrier.hidden
if_code typed exits s arms None place is =
    let row = if_row (stmt.If arms None) in
    ap (λ s. stmt_code typed exits s place) is ∙ arms_code-list typed exits row.0 row.1 0 (λ at. []) place ∙
    ap (λ l. arms_code_of typed exits l 0 (λ at. []) place) (items_hidden-the_row-TArm-1 arms)
if_code typed exits s arms (Some part) place is =
    let row = if_row (stmt.If arms (Some part)) in
    ap (λ s. stmt_code typed exits s place) is ∙
    arms_code-list typed exits row.0 row.1 (stmt_size typed part) (stmt_code typed exits part) place ∙
    ap (λ l. arms_code_of typed exits l (stmt_size typed part) (stmt_code typed exits part) place)
    (items_hidden-the_row-TArm-1 arms)

-- Groups.

last_group_code-list : (typed : Typed) (exits : Exits) (n : Count) (row : Row_of-TStmt n) (place : ℕ) →
    last_group_code typed exits row place ≡ body_code typed exits (kept (items-the_row-TStmt n row)) place
last_group_code-list typed exits n end_of-TStmt place = refl
last_group_code-list typed exits n (more_of-TStmt s rest) place =
    if_same (is_break s && is_nil (items-the_row-TStmt _ rest)) (is_break s && is_end rest) [] _ _
    (ap (λ b. is_break s && b) (is_end-list _ rest))
    (ap (λ l. stmt_code typed exits s place ++ l) (last_group_code-list typed exits _ rest (place + stmt_size typed s))) ∙
    of_choice (λ l. body_code typed exits l place)
    (is_break s && is_nil (items-the_row-TStmt _ rest)) [] (s ∷ kept (items-the_row-TStmt _ rest))

-- the code of a group, the last one or not
group_code-list : (typed : Typed) (exits : Exits) (last : Bool) (n : Count) (row : Row_of-TStmt n) (place : ℕ) →
    (if last then last_group_code typed exits row place else stmts_code typed exits row place) ≡
    body_code typed exits (kept_if last (items-the_row-TStmt n row)) place
group_code-list typed exits true n row place = last_group_code-list typed exits n row place
group_code-list typed exits false n row place = stmts_code-list typed exits n row place

groups_code-list : (typed : Typed) (exits : Exits) (n : Count) (row : Row_of-TGroup n) (place : ℕ) →
    groups_code typed exits row place ≡ groups_code_of typed exits (items-the_row-TGroup n row) place
groups_code-list typed exits n end_of-TGroup place = refl
groups_code-list typed exits n (more_of-TGroup labels shape body rest) place =
    let list : List TStmt = shown-the_row-TStmt-0 shape body in
    let last : Bool = is_nil (items-the_row-TGroup _ rest) in
    let size : ℕ = (if is_end_of_groups rest then last_group_size typed body else stmts_size typed body) in
    let same : List TStmt → ℕ = λ l. sum_by (stmt_size typed) (kept_if last l) in
    ap (λ l. l ++ groups_code typed exits rest (place + size))
    (group_code-list typed exits (is_end_of_groups rest) _ body place ∙
    ap (λ b. body_code typed exits (kept_if b (items-the_row-TStmt _ body)) place) (is_end_of_groups-list _ rest) ∙
    ap (λ l. body_code typed exits (kept_if last l) place) (sym (items_shown-the_row-TStmt-0 shape body))) ∙
    ap (λ k. body_code typed exits (kept_if last list) place ++ groups_code typed exits rest (place + k))
    (group_size-list typed (is_end_of_groups rest) _ body ∙
    ap (λ b. sum_by (stmt_size typed) (kept_if b (items-the_row-TStmt _ body))) (is_end_of_groups-list _ rest) ∙
    ap same (sym (items_shown-the_row-TStmt-0 shape body))) ∙
    ap (λ l. body_code typed exits (kept_if last list) place ++ l)
    (groups_code-list typed exits _ rest (place + same list))

-- the code of a `switch`
pub switch_code : (typed : Typed) (exits : Exits) (s : TStmt) (on : TExpr) (groups : List TGroup) (place : ℕ) →
    s ≡ stmt.Switch on groups → stmt_code typed exits s place ≡
    value_code typed on place 0 ++ switch_code_of typed exits groups (place + value_size typed on)
switch_code typed exits s on groups place is =
    let row = switch_row (stmt.Switch on groups) in
    let at : ℕ = place + value_size typed on in
    let end : List (List (Option ℤ)) → List ℕ → ℕ → ℕ =
    λ labels sizes over. at + (case_count labels + (1 + (jump_size over + sum sizes))) in
    let inner : List (List (Option ℤ)) → List ℕ → ℕ → Exits =
    λ labels sizes over. record { break_at = end labels sizes over; continue_at = exits.continue_at } in
    let whole : List (List (Option ℤ)) → List ℕ → (Exits → ℕ → Listing) → ℕ → Listing =
    λ labels sizes code over. value_code typed on place 0 ++
    (cases_code labels sizes (at + case_count labels + (1 + jump_size over)) ++
    (instr.Drop, 1) ∷ (jump_code over (at + case_count labels + 1) ++
    code (inner labels sizes over) (at + case_count labels + (1 + jump_size over)))) in
    let all = items_hidden-the_row-TGroup-3 groups in
    let sizes : List ℕ = group_sizes typed row.1 in
    let over : List (List (Option ℤ)) → List ℕ → ℕ = λ labels sizes. sum (take (default_group labels) sizes) in
    let code : Exits → ℕ → Listing = λ e p. groups_code typed e row.1 p in
    ap (λ s. stmt_code typed exits s place) is ∙
    ap (λ l. whole l sizes code (over l sizes)) (labels-list row.0 row.1 ∙ ap labels_of_groups all) ∙
    ap (λ l. whole (labels_of_groups groups) l code (over (labels_of_groups groups) l))
    (group_sizes-list typed row.0 row.1 ∙ ap (group_sizes_of typed) all) ∙
    ap (λ k. whole (labels_of_groups groups) (group_sizes_of typed groups) code k)
    (default_before (labels_of_groups groups) (group_sizes_of typed groups)) ∙
    (let last_exits : Exits = inner (labels_of_groups groups) (group_sizes_of typed groups)
    (before_default (labels_of_groups groups) (group_sizes_of typed groups)) in
    ap (λ l. value_code typed on place 0 ++
    (cases_code (labels_of_groups groups) (group_sizes_of typed groups)
    (at + case_count_of groups + (1 + jump_size (before_default (labels_of_groups groups) (group_sizes_of typed groups)))) ++
    (instr.Drop, 1) ∷ (jump_code (before_default (labels_of_groups groups) (group_sizes_of typed groups)) (at + case_count_of groups + 1) ++ l)))
    (groups_code-list typed last_exits row.0 row.1 _ ∙
    ap (λ l. groups_code_of typed last_exits l (at + case_count_of groups +
    (1 + jump_size (before_default (labels_of_groups groups) (group_sizes_of typed groups))))) all))

-- the code of a `for`, in whose body `break` leads to one place and `continue` to another
pub for_code : (typed : Typed) (exits : Exits) (s : TStmt) (init : Option TStmt) (test : Option TExpr) (step : Option TStmt)
    (body : TStmt) (place break_at continue_at : ℕ) → s ≡ stmt.For init test step body →
    continue_at ≡ place + part_size_of typed init +
    (jump_size (stmt_size typed body + part_size_of typed step) + stmt_size typed body) →
    break_at ≡ continue_at + (part_size_of typed step + for_test_size typed test) →
    stmt_code typed exits s place ≡ part_code_of typed exits init place ++
    loop_code (stmt_size typed body + part_size_of typed step)
    (λ at. stmt_code typed (record { break_at = break_at; continue_at = continue_at }) body at ++
    part_code_of typed exits step (at + stmt_size typed body))
    (for_test_code typed test) (place + part_size_of typed init)
unfolding Rattle.typed_tree.specs.declared.statement.TStmt.TheBlock.hidden-the_row-TStmt-2 denote.Hole.Carrier.hidden
for_code typed exits s None test None body place b k is at_k at_b = rw (at_b, at_k) (ap (λ s. stmt_code typed exits s place) is)
for_code typed exits s None test (Some step) body place b k is at_k at_b = rw (at_b, at_k) (ap (λ s. stmt_code typed exits s place) is)
for_code typed exits s (Some init) test None body place b k is at_k at_b = rw (at_b, at_k) (ap (λ s. stmt_code typed exits s place) is)
for_code typed exits s (Some init) test (Some step) body place b k is at_k at_b =
    rw (at_b, at_k) (ap (λ s. stmt_code typed exits s place) is)

-- the size of a `while`
pub while_size : (typed : Typed) (s : TStmt) (test : TExpr) (body : TStmt) → s ≡ stmt.While test body →
    stmt_size typed s ≡ jump_size (stmt_size typed body) + (stmt_size typed body + test_size typed true true test)
unfolding Rattle.typed_tree.specs.declared.statement.TStmt.TheBlock.hidden-the_row-TStmt-2 denote.Hole.Carrier.hidden
while_size typed s test body is = ap (stmt_size typed) is

-- the size of a `do`
pub do_size : (typed : Typed) (s : TStmt) (test : TExpr) (body : TStmt) → s ≡ stmt.Do body test →
    stmt_size typed s ≡ 1 + (stmt_size typed body + test_size typed true true test)
unfolding Rattle.typed_tree.specs.declared.statement.TStmt.TheBlock.hidden-the_row-TStmt-2 denote.Hole.Carrier.hidden
do_size typed s test body is = ap (stmt_size typed) is
