-- What a tree holds as a row, and as a list: the same size, and the same place at its end.
use mathlib.Core.Former.{Count}
use Rattle.std.specs.Prelude.{◌≡◌, ℕ, zero, suc, ◌+◌, ◌*◌, ◌≤◌, nat_lt, Bool, true, false, not, ◌||◌, ◌&&◌, if◌then◌else◌, cond, List, [], ◌∷◌, length, sum, sum_by, take, unwrap_or, ℤ, Option, Some, None}
use Rattle.std.specs.List.{list_any, position_or_len, prefix_len}
use Rattle.std.proofs.lemmas.Bool.{ltb-false}
use Rattle.std.proofs.Common.{refl, ap, sym, ◌∙◌, arith}
use Rattle.std.proofs.lemmas.List.Sums.{sum_by-cons}
use Rattle.typed_tree.specs.declared.expression.TExpr.{TExpr, Row_of-TExpr, end_of-TExpr, more_of-TExpr, items-the_row-TExpr, items_hidden-the_row-TExpr-1}
use Rattle.typed_tree.specs.declared.expression.TExpr.TheVariants.{Call, Call'}
use Rattle.typed_tree.specs.declared.statement.TArm.{TArm}
use Rattle.typed_tree.specs.declared.statement.TGroup.{TGroup}
use Rattle.typed_tree.specs.declared.statement.TStmt.{TStmt, Row_of-TStmt, end_of-TStmt, more_of-TStmt, items-the_row-TStmt}
use Rattle.typed_tree.specs.declared.statement.TStmt.TheVariants as stmt
use Rattle.typed_tree.specs.declared.statement.TStmt.TheVariants.{Block', If', Switch'}
use Rattle.typed_tree.specs.declared.statement.TStmt.TheBlock.{Row_of-TArm, end_of-TArm, more_of-TArm, Row_of-TGroup, end_of-TGroup, more_of-TGroup, items-the_row-TArm, items-the_row-TGroup, items_hidden-the_row-TStmt-0, items_shown-the_row-TStmt-0, shown-the_row-TStmt-0, items_hidden-the_row-TArm-1, items_hidden-the_row-TGroup-3}
use Rattle.typed_tree.specs.declared.program.Typed.{Typed}
use Rattle.typed_tree.specs.Expression.{params_of}
use Rattle.typed_tree.specs.Shape.{arms_go_on, body_goes_on, goes_on, is_break, is_end, is_end_of_groups, last_goes_on}
use Rattle.typed_tree.specs.Size.{args_size, arms_size, case_count, for_test_size, group_sizes, jump_size, last_group_size, part_size, stmt_size, stmts_size, test_size, value_size}
use Rattle.typed_tree.specs.Statement.{default_group, labels_of, same_label}
use Rattle.code_size.specs.Rows.{arms_go_on_of, arms_size_of, before_default, case_count_of, group_sizes_of, is_nil, kept, kept_if, labels_of_groups, part_goes_on_of, part_size_of, switch_size_of}

-- Arguments.

-- a row has the size of its list
args_size-list : (typed : Typed) (n : Count) (row : Row_of-TExpr n) →
    args_size typed row ≡ sum_by (value_size typed) (items-the_row-TExpr n row)
args_size-list typed n end_of-TExpr = refl
args_size-list typed n (more_of-TExpr e rest) =
    ap (λ k. value_size typed e + k) (args_size-list typed _ rest) ∙
    sym (sum_by-cons (value_size typed) e (items-the_row-TExpr _ rest))

-- the row of a call
abbrev pub row_of : TExpr → (n : Count) × Row_of-TExpr n
row_of (Call' _ _ row) = (_, row)
row_of _ = (_, end_of-TExpr)

-- the size of a call
pub call_size : (typed : Typed) (e : TExpr) (f : ℕ) (args : List TExpr) → e ≡ Call f args →
    value_size typed e ≡ sum_by (value_size typed) args + (2 * length (params_of typed f) + 1)
call_size typed e f args is =
    let row = row_of (Call f args) in
    ap (value_size typed) is ∙
    ap (λ k. k + (2 * length (params_of typed f) + 1))
    (args_size-list typed row.0 row.1 ∙ ap (sum_by (value_size typed)) (items_hidden-the_row-TExpr-1 args))

-- Statements in a row.

stmts_size-list : (typed : Typed) (n : Count) (row : Row_of-TStmt n) →
    stmts_size typed row ≡ sum_by (stmt_size typed) (items-the_row-TStmt n row)
stmts_size-list typed n end_of-TStmt = refl
stmts_size-list typed n (more_of-TStmt s rest) =
    ap (λ k. stmt_size typed s + k) (stmts_size-list typed _ rest) ∙
    sym (sum_by-cons (stmt_size typed) s (items-the_row-TStmt _ rest))

last_goes_on-list : (before : Bool) (n : Count) (row : Row_of-TStmt n) →
    last_goes_on before row ≡ body_goes_on before (items-the_row-TStmt n row)
last_goes_on-list before n end_of-TStmt = refl
last_goes_on-list before n (more_of-TStmt s rest) = last_goes_on-list (goes_on s) _ rest

-- a row ends where its list does
pub is_end-list : (n : Count) (row : Row_of-TStmt n) → is_end row ≡ is_nil (items-the_row-TStmt n row)
is_end-list n end_of-TStmt = refl
is_end-list n (more_of-TStmt s rest) = refl

-- the row of a block
abbrev pub block_row : TStmt → (n : Count) × Row_of-TStmt n
block_row (Block' _ row) = (_, row)
block_row _ = (_, end_of-TStmt)

-- the size of a block
pub block_size : (typed : Typed) (s : TStmt) (all : List TStmt) → s ≡ stmt.Block all →
    stmt_size typed s ≡ sum_by (stmt_size typed) all
block_size typed s all is =
    let row = block_row (stmt.Block all) in
    ap (stmt_size typed) is ∙ stmts_size-list typed row.0 row.1 ∙
    ap (sum_by (stmt_size typed)) (items_hidden-the_row-TStmt-0 all)

-- whether a block goes on
pub block_goes : (s : TStmt) (all : List TStmt) → s ≡ stmt.Block all → goes_on s ≡ body_goes_on true all
block_goes s all is =
    let row = block_row (stmt.Block all) in
    ap goes_on is ∙ last_goes_on-list true row.0 row.1 ∙
    ap (body_goes_on true) (items_hidden-the_row-TStmt-0 all)

-- Arms.

-- arms as a row have the size of their list
pub arms_size-list : (typed : Typed) (n : Count) (row : Row_of-TArm n) (other : ℕ) →
    arms_size typed row other ≡ arms_size_of typed (items-the_row-TArm n row) other
arms_size-list typed n end_of-TArm other = refl
arms_size-list typed n (more_of-TArm test body rest) other =
    ap (λ behind. test_size typed false false test + (stmt_size typed body +
    ((if goes_on body then jump_size behind else 0) + behind))) (arms_size-list typed _ rest other)

arms_go_on-list : (n : Count) (row : Row_of-TArm n) (other : Bool) →
    arms_go_on row other ≡ arms_go_on_of (items-the_row-TArm n row) other
arms_go_on-list n end_of-TArm other = refl
arms_go_on-list n (more_of-TArm test body rest) other = ap (λ b. goes_on body || b) (arms_go_on-list _ rest other)

-- the row of an `if`
abbrev pub if_row : TStmt → (n : Count) × Row_of-TArm n
if_row (If' _ row _) = (_, row)
if_row _ = (_, end_of-TArm)

-- the size of an `if`
pub if_size : (typed : Typed) (s : TStmt) (arms : List TArm) (other : Option TStmt) → s ≡ stmt.If arms other →
    stmt_size typed s ≡ arms_size_of typed arms (part_size_of typed other)
unfolding Rattle.typed_tree.specs.declared.statement.TStmt.TheBlock.hidden-the_row-TArm-1 denote.Hole.Carrier.hidden
if_size typed s arms None is =
    let row = if_row (stmt.If arms None) in
    ap (stmt_size typed) is ∙ arms_size-list typed row.0 row.1 0 ∙
    ap (λ l. arms_size_of typed l 0) (items_hidden-the_row-TArm-1 arms)
if_size typed s arms (Some part) is =
    let row = if_row (stmt.If arms (Some part)) in
    ap (stmt_size typed) is ∙ arms_size-list typed row.0 row.1 (stmt_size typed part) ∙
    ap (λ l. arms_size_of typed l (stmt_size typed part)) (items_hidden-the_row-TArm-1 arms)

-- whether an `if` goes on
pub if_goes : (s : TStmt) (arms : List TArm) (other : Option TStmt) → s ≡ stmt.If arms other →
    goes_on s ≡ arms_go_on_of arms (part_goes_on_of other)
unfolding Rattle.typed_tree.specs.declared.statement.TStmt.TheBlock.hidden-the_row-TArm-1 denote.Hole.Carrier.hidden
if_goes s arms None is =
    let row = if_row (stmt.If arms None) in
    ap goes_on is ∙ arms_go_on-list row.0 row.1 true ∙
    ap (λ l. arms_go_on_of l true) (items_hidden-the_row-TArm-1 arms)
if_goes s arms (Some part) is =
    let row = if_row (stmt.If arms (Some part)) in
    ap goes_on is ∙ arms_go_on-list row.0 row.1 (goes_on part) ∙
    ap (λ l. arms_go_on_of l (goes_on part)) (items_hidden-the_row-TArm-1 arms)

-- Groups.

-- the same choice
pub if_same : {A : Type 0} (b c : Bool) (x y z : A) → c ≡ b → y ≡ z → (if c then x else y) ≡ (if b then x else z)
if_same b c x y z e f = ap (λ d. if d then x else y) e ∙ ap (λ y. if b then x else y) f

-- what a function makes of a choice of statements
pub of_choice : {A : Type 0} (f : List TStmt → A) (b : Bool) (xs ys : List TStmt) →
    (if b then f xs else f ys) ≡ f (if b then xs else ys)
of_choice f true xs ys = refl
of_choice f false xs ys = refl

last_group_size-list : (typed : Typed) (n : Count) (row : Row_of-TStmt n) →
    last_group_size typed row ≡ sum_by (stmt_size typed) (kept (items-the_row-TStmt n row))
last_group_size-list typed n end_of-TStmt = refl
last_group_size-list typed n (more_of-TStmt s rest) =
    if_same (is_break s && is_nil (items-the_row-TStmt _ rest)) (is_break s && is_end rest) 0 _ _
    (ap (λ b. is_break s && b) (is_end-list _ rest))
    (ap (λ k. stmt_size typed s + k) (last_group_size-list typed _ rest) ∙
    sym (sum_by-cons (stmt_size typed) s (kept (items-the_row-TStmt _ rest)))) ∙
    of_choice (sum_by (stmt_size typed)) (is_break s && is_nil (items-the_row-TStmt _ rest)) [] (s ∷ kept (items-the_row-TStmt _ rest))

-- a row of groups ends where its list does
pub is_end_of_groups-list : (n : Count) (row : Row_of-TGroup n) → is_end_of_groups row ≡ is_nil (items-the_row-TGroup n row)
is_end_of_groups-list n end_of-TGroup = refl
is_end_of_groups-list n (more_of-TGroup labels shape body rest) = refl

-- a row of groups has the labels of its list
pub labels-list : (n : Count) (row : Row_of-TGroup n) → labels_of row ≡ labels_of_groups (items-the_row-TGroup n row)
labels-list n end_of-TGroup = refl
labels-list n (more_of-TGroup labels shape body rest) = ap (λ l. labels ∷ l) (labels-list _ rest)

-- the size of a group, the last one or not
pub group_size-list : (typed : Typed) (last : Bool) (n : Count) (row : Row_of-TStmt n) →
    (if last then last_group_size typed row else stmts_size typed row) ≡
    sum_by (stmt_size typed) (kept_if last (items-the_row-TStmt n row))
group_size-list typed true n row = last_group_size-list typed n row
group_size-list typed false n row = stmts_size-list typed n row

-- a row of groups has the sizes of its list
pub group_sizes-list : (typed : Typed) (n : Count) (row : Row_of-TGroup n) →
    group_sizes typed row ≡ group_sizes_of typed (items-the_row-TGroup n row)
group_sizes-list typed n end_of-TGroup = refl
group_sizes-list typed n (more_of-TGroup labels shape body rest) =
    let list : List TStmt = shown-the_row-TStmt-0 shape body in
    let first : ℕ → List ℕ = λ k. k ∷ group_sizes typed rest in
    ap first (group_size-list typed (is_end_of_groups rest) _ body ∙
    ap (λ b. sum_by (stmt_size typed) (kept_if b (items-the_row-TStmt _ body))) (is_end_of_groups-list _ rest) ∙
    ap (λ l. sum_by (stmt_size typed) (kept_if (is_nil (items-the_row-TGroup _ rest)) l))
    (sym (items_shown-the_row-TStmt-0 shape body))) ∙
    ap (λ l. sum_by (stmt_size typed) (kept_if (is_nil (items-the_row-TGroup _ rest)) list) ∷ l)
    (group_sizes-list typed _ rest)

-- the row of a `switch`
abbrev pub switch_row : TStmt → (n : Count) × Row_of-TGroup n
switch_row (Switch' _ _ row) = (_, row)
switch_row _ = (_, end_of-TGroup)

-- the first place that passes a test is no further than behind the last item
prefix_le : {A : Type 0} (p : A → Bool) (xs : List A) → prefix_len p xs ≤ length xs
prefix_le p [] = omega arith
prefix_le p (x ∷ xs) = by_test (p x) (prefix_le p xs)
  where
    by_test : (b : Bool) → prefix_len p xs ≤ length xs → cond b (1 + prefix_len p xs) 0 ≤ suc (length xs)
    by_test true h = omega (arith, h)
    by_test false h = omega arith

-- a place, or else the end
place_or_end : (k n : ℕ) → k ≤ n → unwrap_or (cond (nat_lt k n) (Some k) None) n ≡ k
place_or_end k n le = by_test (nat_lt k n) refl
  where
    by_test : (b : Bool) → nat_lt k n ≡ b → unwrap_or (cond b (Some k) None) n ≡ k
    by_test true e = refl
    by_test false e = omega (arith, ltb-false k n e, le)

-- so many items of no list
none_taken : (k : ℕ) → sum (take k []) ≡ 0
none_taken zero = refl
none_taken (suc k) = refl

-- what stands before a group, where it is the first or one behind it
before_first : (b : Bool) (k size whole : ℕ) (sizes : List ℕ) → sum (take k sizes) ≡ whole →
    sum (take (cond (not b) (1 + k) 0) (size ∷ sizes)) ≡ (if b then 0 else size + whole)
before_first true k size whole sizes h = refl
before_first false k size whole sizes h =
    let next : 1 + k ≡ suc k = omega arith in
    rw next (sum_by-cons (λ k. k) size (take k sizes) ∙ ap (λ n. size + n) h)

-- what stands before the first group with `default`, by its place
sum_before : (labels : List (List (Option ℤ))) (sizes : List ℕ) →
    sum (take (position_or_len (list_any (same_label None)) labels) sizes) ≡ before_default labels sizes
sum_before [] sizes = refl
sum_before (first ∷ labels) [] = none_taken (position_or_len (list_any (same_label None)) (first ∷ labels))
sum_before (first ∷ labels) (size ∷ sizes) =
    before_first (list_any (same_label None) first) (position_or_len (list_any (same_label None)) labels)
    size (before_default labels sizes) sizes (sum_before labels sizes)

-- what stands before the first group with `default`
pub default_before : (labels : List (List (Option ℤ))) (sizes : List ℕ) →
    sum (take (default_group labels) sizes) ≡ before_default labels sizes
default_before labels sizes =
    ap (λ k. sum (take k sizes))
    (place_or_end (position_or_len (list_any (same_label None)) labels) (length labels)
    (prefix_le (λ x. not (list_any (same_label None) x)) labels)) ∙ sum_before labels sizes

-- the size of a `switch`
pub switch_size : (typed : Typed) (s : TStmt) (on : TExpr) (groups : List TGroup) → s ≡ stmt.Switch on groups →
    stmt_size typed s ≡ value_size typed on + switch_size_of typed groups
switch_size typed s on groups is =
    let row = switch_row (stmt.Switch on groups) in
    let of : List (List (Option ℤ)) → List ℕ → ℕ =
    λ labels sizes. value_size typed on + Rattle.typed_tree.specs.Size.switch_size labels sizes in
    let all = items_hidden-the_row-TGroup-3 groups in
    ap (stmt_size typed) is ∙
    ap (λ l. of l (group_sizes typed row.1)) (labels-list row.0 row.1 ∙ ap labels_of_groups all) ∙
    ap (λ l. of (labels_of_groups groups) l) (group_sizes-list typed row.0 row.1 ∙ ap (group_sizes_of typed) all) ∙
    ap (λ k. value_size typed on + (case_count_of groups + (1 + (jump_size k + sum (group_sizes_of typed groups)))))
    (default_before (labels_of_groups groups) (group_sizes_of typed groups))

-- the size of a `for`
pub for_size : (typed : Typed) (s : TStmt) (init : Option TStmt) (test : Option TExpr) (step : Option TStmt) (body : TStmt) →
    s ≡ stmt.For init test step body → stmt_size typed s ≡ part_size_of typed init +
    (jump_size (stmt_size typed body + part_size_of typed step) +
    (stmt_size typed body + part_size_of typed step + for_test_size typed test))
unfolding Rattle.typed_tree.specs.declared.statement.TStmt.TheBlock.hidden-the_row-TStmt-2 denote.Hole.Carrier.hidden
for_size typed s None test None body is = ap (stmt_size typed) is
for_size typed s None test (Some step) body is = ap (stmt_size typed) is
for_size typed s (Some init) test None body is = ap (stmt_size typed) is
for_size typed s (Some init) test (Some step) body is = ap (stmt_size typed) is
