-- The code of a statement has as many instructions as its size says.
use mathlib.Core.Former.{Count}
use Rattle.std.specs.Prelude.{◌≡◌, ℕ, suc, ◌+◌, Bool, true, false, not, ◌&&◌, if◌then◌else◌, ◌==◌, List, [], ◌∷◌, length, sum, sum_by, count_by, is_some, ℤ, Option, Some, None}
use Rattle.std.proofs.lemmas.List.Sums.{sum_by-cons}
use Rattle.std.proofs.Common.{refl, ap, sym, ◌∙◌, arith}
use Rattle.bytecode.specs.declared.instr.Instr.TheVariants as instr
use Rattle.typed_tree.specs.declared.expression.TExpr.{TExpr}
use Rattle.typed_tree.specs.declared.expression.TExpr.TheVariants.{Const, Load, Bump, Call', Active, Now}
use Rattle.typed_tree.specs.declared.statement.TStmt.{TStmt, Row_of-TStmt, end_of-TStmt, more_of-TStmt}
use Rattle.typed_tree.specs.declared.statement.TStmt.TheVariants.{Empty, Block', If', Switch', Break, Continue, Return, Eval, Write, Send, Copy, Halt, Set, Cancel}
use Rattle.typed_tree.specs.declared.statement.TStmt.TheBlock.{Held-TStmt-If-1, Row_of-TArm, end_of-TArm, more_of-TArm, Row_of-TGroup, end_of-TGroup, more_of-TGroup}
use Rattle.typed_tree.specs.declared.program.Typed.{Typed}
use Rattle.typed_tree.specs.Forms.{Binary, Both, Cond, Convert, Do, Either, For, NoPart, Part, Store, Unary, Update, While}
use Rattle.typed_tree.specs.Statement.{labels_of}
use Rattle.typed_tree.specs.Shape.{goes_on, is_break, is_end, is_end_of_groups, leaves_number}
use Rattle.typed_tree.specs.Size.{arms_size, case_count, dropped_size, for_test_size, group_sizes, jump_size, last_group_size, loop_size, part_size, returned_size, stmt_size, stmts_size, switch_size, value_size}
use Rattle.code_listing.specs.Exit.{Backward, Forward}
use Rattle.code_listing.specs.Expression.{value_code}
use Rattle.code_listing.specs.Listing.{Listing, jump_code}
use Rattle.code_listing.specs.Statement.{Exits, arms_code, cases_code, dropped_code, for_test_code, groups_code, labels_code, last_group_code, loop_code, part_code, return_code, stmt_code, stmts_code, switch_code, values_code}
use Rattle.code_listing.proofs.ExpressionSizes.{both_long, codes_fit, cons_long, instr_if_long}

-- the code of an expression as a value
pub value_long : (typed : Typed) (e : TExpr) (place depth : ℕ) →
    length (value_code typed e place depth) ≡ value_size typed e
value_long typed e place depth = (codes_fit typed e).value place depth

-- a jump
pub jump_long : (over place : ℕ) → length (jump_code over place) ≡ jump_size over
jump_long over place = instr_if_long (not (over == 0)) (instr.Jump (place + 1 + over), 0)

-- an expression whose value is dropped
pub dropped_long : (typed : Typed) (e : TExpr) (place : ℕ) →
    length (dropped_code typed e place) ≡ dropped_size typed e
dropped_long typed (Bump at k up post) place = value_long typed (Bump at k up false) place 0
dropped_long typed (Const n) place = value_long typed (Const n) place 0
dropped_long typed (Load at) place = value_long typed (Load at) place 0
dropped_long typed (Store at e) place = value_long typed (Store at e) place 0
dropped_long typed (Update op k back at e) place = value_long typed (Update op k back at e) place 0
dropped_long typed (Unary op k e) place = value_long typed (Unary op k e) place 0
dropped_long typed (Binary op k a b) place = value_long typed (Binary op k a b) place 0
dropped_long typed (Both a b) place = value_long typed (Both a b) place 0
dropped_long typed (Either a b) place = value_long typed (Either a b) place 0
dropped_long typed (Cond a b c) place = value_long typed (Cond a b c) place 0
dropped_long typed (Convert k e) place = value_long typed (Convert k e) place 0
dropped_long typed (Call' f shape args) place = value_long typed (Call' f shape args) place 0
dropped_long typed (Active timer) place = value_long typed (Active timer) place 0
dropped_long typed Now place = value_long typed Now place 0

-- a `return`
pub return_long : (typed : Typed) (value : Option TExpr) (place : ℕ) →
    length (return_code typed value place) ≡ returned_size typed value + 1
return_long typed None place = refl
return_long typed (Some e) place = both_long _ _ _ _ (value_long typed e place 0) refl

-- expressions in order
pub values_long : (typed : Typed) (all : List TExpr) (place depth : ℕ) →
    length (values_code typed all place depth) ≡ sum_by (value_size typed) all
values_long typed [] place depth = refl
values_long typed (e ∷ rest) place depth =
    both_long _ _ _ _ (value_long typed e place depth) (values_long typed rest (place + value_size typed e) (depth + 1)) ∙ sym (sum_by-cons (value_size typed) e rest)

-- the test of a `for`
pub for_test_long : (typed : Typed) (test : Option TExpr) (start place : ℕ) →
    length (for_test_code typed test start place) ≡ for_test_size typed test
for_test_long typed None start place = refl
for_test_long typed (Some e) start place = (codes_fit typed e).test true (Backward start) place 0

loop_long : (m n : ℕ) (body : ℕ → Listing) (test : ℕ → ℕ → Listing) (place : ℕ) → ((at : ℕ) →
    length (body at) ≡ m) →
    ((start at : ℕ) → length (test start at) ≡ n) → length (loop_code m body test place) ≡ loop_size m n
loop_long m n body test place b t = both_long _ _ _ _ (jump_long m place) (both_long _ _ _ _ (b _) (t _ _))

-- the cases of a group
pub labels_long : (labels : List (Option ℤ)) (at : ℕ) → length (labels_code labels at) ≡ count_by is_some labels
labels_long [] at = refl
labels_long (None ∷ labels) at = labels_long labels at
labels_long (Some n ∷ labels) at = ap suc (labels_long labels at) ∙ (omega (arith, sum_by-cons (λ (label : Option ℤ). if is_some label then 1 else 0) (Some n) labels))

-- the cases of groups
pub cases_long : (labels : List (List (Option ℤ))) (sizes : List ℕ) (at : ℕ) → length labels ≡ length sizes →
    length (cases_code labels sizes at) ≡ case_count labels
cases_long [] sizes at e = refl
cases_long (labels ∷ groups) [] at e = absurd (omega (arith, e))
cases_long (labels ∷ groups) (size ∷ sizes) at e =
    both_long _ _ _ _ (labels_long labels at) (cases_long groups sizes (at + size) (omega (arith, e))) ∙
    sym (sum_by-cons (count_by is_some) labels groups)

-- a `switch` has a size for each group
pub sizes_of_groups : (typed : Typed) {m : Count} (groups : Row_of-TGroup m) →
    length (labels_of groups) ≡ length (group_sizes typed groups)
sizes_of_groups typed end_of-TGroup = refl
sizes_of_groups typed (more_of-TGroup labels shape body rest) = ap suc (sizes_of_groups typed rest)

switch_long : (labels : List (List (Option ℤ))) (sizes : List ℕ) (groups : ℕ → Listing) (place : ℕ) → length labels ≡ length sizes →
    ((at : ℕ) → length (groups at) ≡ sum sizes) →
    length (switch_code labels sizes groups place) ≡ switch_size labels sizes
switch_long labels sizes groups place e h = both_long _ _ _ _ (cases_long labels sizes _ e) (cons_long _ _
    (both_long _ _ _ _ (jump_long _ _) (h _)))

-- a sum of one more number
pub sum-cons : (n : ℕ) (ns : List ℕ) → sum (n ∷ ns) ≡ n + sum ns
sum-cons n ns = sum_by-cons (λ k. k) n ns

long_if : (b : Bool) (xs ys : Listing) (m n : ℕ) → length xs ≡ m → length ys ≡ n →
    length (if b then xs else ys) ≡ (if b then m else n)
long_if true xs ys m n e f = e
long_if false xs ys m n e f = f

mutual
  -- the code of a statement is as long as its size
  pub stmt_long : (typed : Typed) (exits : Exits) (s : TStmt) (place : ℕ) →
      length (stmt_code typed exits s place) ≡ stmt_size typed s
  stmt_long typed exits Empty place = refl
  stmt_long typed exits (Block' shape all) place = stmts_long typed exits all place
  stmt_long typed exits (If' shape arms other) place = arms_long typed exits arms (part_size typed other) _ place (part_long typed exits other)
  stmt_long typed exits (While test body) place = loop_long _ _ _ _ place (stmt_long typed _ body)
      (λ start at. (codes_fit typed test).test true (Backward start) at 0)
  stmt_long typed exits (Do body test) place =
      cons_long _ _
      (both_long _ _ _ _ (stmt_long typed _ body (place + 1)) ((codes_fit typed test).test true (Backward (place + 1)) _ 0))
  stmt_long typed exits (For init test step body) place =
      let size : ℕ = stmt_size typed body + part_size typed step in
      let step_at : ℕ = place + part_size typed init + (jump_size size + stmt_size typed body) in
      let inner : Exits = record { break_at = step_at + (part_size typed step + for_test_size typed test); continue_at = step_at } in
      both_long _ _ _ _ (part_long typed exits init place) (loop_long size _ _ _ _
      (λ at. both_long _ _ _ _ (stmt_long typed inner body at) (part_long typed exits step (at + stmt_size typed body))) (for_test_long typed test))
  stmt_long typed exits (Switch' on shape groups) place = both_long _ _ _ _ (value_long typed on place 0)
      (switch_long _ _ _ _ (sizes_of_groups typed groups) (groups_long typed _ groups))
  stmt_long typed exits Break place = refl
  stmt_long typed exits Continue place = refl
  stmt_long typed exits (Return value) place = return_long typed value place
  stmt_long typed exits (Eval e) place = both_long _ _ _ _ (dropped_long typed e place) (instr_if_long (leaves_number typed e) (instr.Drop, 1))
  stmt_long typed exits (Write format args) place = both_long _ _ _ _ (values_long typed args place 0) refl
  stmt_long typed exits (Send at) place = refl
  stmt_long typed exits (Copy to from) place = refl
  stmt_long typed exits Halt place = refl
  stmt_long typed exits (Set timer cyclic e) place = both_long _ _ _ _ (value_long typed e place 0) refl
  stmt_long typed exits (Cancel timer) place = refl

  -- the code of statements in order is as long as its size
  pub stmts_long : (typed : Typed) (exits : Exits) {m : Count} (all : Row_of-TStmt m) (place : ℕ) →
      length (stmts_code typed exits all place) ≡ stmts_size typed all
  stmts_long typed exits end_of-TStmt place = refl
  stmts_long typed exits (more_of-TStmt s rest) place = both_long _ _ _ _ (stmt_long typed exits s place) (stmts_long typed exits rest _)

  -- the code of arms is as long as its size
  pub arms_long : (typed : Typed) (exits : Exits) {m : Count} (arms : Row_of-TArm m) (size : ℕ) (other : ℕ → Listing) (place : ℕ) →
      ((at : ℕ) → length (other at) ≡ size) →
      length (arms_code typed exits arms size other place) ≡ arms_size typed arms size
  arms_long typed exits end_of-TArm size other place h = h place
  arms_long typed exits (more_of-TArm test body rest) size other place h =
      both_long _ _ _ _ ((codes_fit typed test).test false (Forward _) place 0)
      (both_long _ _ _ _ (stmt_long typed exits body _)
      (both_long _ _ _ _ (long_if (goes_on body) _ [] _ 0 (jump_long _ _) refl) (arms_long typed exits rest size other _ h)))

  -- the code of a part is as long as its size
  pub part_long : (typed : Typed) (exits : Exits) (part : Held-TStmt-If-1) (place : ℕ) →
      length (part_code typed exits part place) ≡ part_size typed part
  part_long typed exits NoPart place = refl
  part_long typed exits (Part part) place = stmt_long typed exits part place

  -- the code of groups is as long as their sizes
  pub groups_long : (typed : Typed) (exits : Exits) {m : Count} (groups : Row_of-TGroup m) (place : ℕ) →
      length (groups_code typed exits groups place) ≡ sum (group_sizes typed groups)
  groups_long typed exits end_of-TGroup place = refl
  groups_long typed exits (more_of-TGroup labels shape body rest) place =
      both_long _ _ _ _ (long_if (is_end_of_groups rest) _ _ _ _ (last_group_long typed exits body place) (stmts_long typed exits body place))
      (groups_long typed exits rest _) ∙ sym (sum-cons _ (group_sizes typed rest))

  -- the code of the last group is as long as its size
  pub last_group_long : (typed : Typed) (exits : Exits) {m : Count} (all : Row_of-TStmt m) (place : ℕ) →
      length (last_group_code typed exits all place) ≡ last_group_size typed all
  last_group_long typed exits end_of-TStmt place = refl
  last_group_long typed exits (more_of-TStmt s rest) place =
      long_if (is_break s && is_end rest) [] _ 0 _ refl
      (both_long _ _ _ _ (stmt_long typed exits s place) (last_group_long typed exits rest _))
