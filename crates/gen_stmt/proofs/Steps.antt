-- One step of each loop: one more item, and those behind it.
use Rattle.std.specs.Prelude.{◌≡◌, ℕ, suc, ◌+◌, ◌<◌, ◌≤◌, Bool, true, false, not, ◌&&◌, if◌then◌else◌, ◌==◌, nat_lt, List, [], ◌∷◌, ◌++◌, length, map, sum, sum_by, drop, take, is_some, ℤ, Option, None}
use Rattle.std.specs.List.{list_any}
use Rattle.std.proofs.Common.{refl, ap, sym, ◌∙◌, arith, append_assoc, get_or, add-zero}
use Rattle.std.proofs.lemmas.Bool.{eqb-true, le-ltb, lt-ltb}
use Rattle.std.proofs.lemmas.List.Sums.{sum_by-cons}
use Rattle.bytecode.specs.declared.instr.Instr.TheVariants.{Jump}
use Rattle.typed_tree.specs.declared.program.TFun.{TFun}
use Rattle.typed_tree.specs.declared.program.Typed.{Typed}
use Rattle.typed_tree.specs.declared.statement.TArm.{TArm}
use Rattle.typed_tree.specs.declared.statement.TGroup.{TGroup}
use Rattle.typed_tree.specs.declared.statement.TStmt.{TStmt}
use Rattle.typed_tree.specs.Shape.{goes_on}
use Rattle.typed_tree.specs.Size.{jump_size, one_if, procedure_size, stmt_size, test_size, value_size}
use Rattle.typed_tree.specs.declared.expression.TExpr.{TExpr}
use Rattle.typed_tree.specs.Statement.{same_label}
use Rattle.code_listing.specs.Listing.{Listing, instr_if, jump_code}
use Rattle.code_listing.specs.Program.{Procedure, body_code, function_table, place_behind, procedure_code, procedures_code}
use Rattle.code_listing.specs.Statement.{Exits, cases_code, labels_code, stmt_code}
use Rattle.gen_expr.proofs.Emitted.{value_some}
use Rattle.code_size.proofs.Steps.{arms_here, drop_next, is_nil-drop, sizes_here}
use Rattle.gen_stmt.specs.Inside.Procedures.{entry_of, of_function}
use Rattle.gen_stmt.proofs.Noted.{first_here}
use Rattle.code_size.specs.Rows.{functions_size}
use Rattle.gen_stmt.specs.Inside.Rows.{arm_code, arm_jumps, arms_code_of, behind_arm, groups_code_of}
use Rattle.code_size.specs.Rows.{arms_size_of, before_default, group_sizes_of, kept_if, labels_of_groups}

-- Sizes.

-- there are no more expressions than instructions of them
pub values_count : (typed : Typed) (all : List TExpr) → length all ≤ sum_by (value_size typed) all
values_count typed [] = omega arith
values_count typed (e ∷ rest) =
    omega (arith, values_count typed rest, value_some typed e, sum_by-cons (value_size typed) e rest)

-- what stands before a group is no larger than all groups
pub before_default_le : (labels : List (List (Option ℤ))) (sizes : List ℕ) → before_default labels sizes ≤ sum sizes
before_default_le [] [] = omega arith
before_default_le [] (size ∷ sizes) = omega arith
before_default_le (first ∷ labels) [] = omega arith
before_default_le (first ∷ labels) (size ∷ sizes) =
    by_test (list_any (same_label None) first) (before_default_le labels sizes)
  where
    by_test : (b : Bool) → before_default labels sizes ≤ sum sizes →
        (if b then 0 else size + before_default labels sizes) ≤ sum (size ∷ sizes)
    by_test true h = omega arith
    by_test false h = omega (arith, h, sum_by-cons (λ k. k) size sizes)

-- Code.

-- one more of the first statements
pub first_next : (typed : Typed) (exits : Exits) (all : List TStmt) (count i : ℕ) (s : TStmt) (c1 c2 : Listing) →
    count ≤ length all → i < count → s ≡ get_or all i s → c2 ≡ c1 ++ stmt_code typed exits s (length c1) →
    length c2 ≡ length c1 + stmt_size typed s →
    c2 ++ body_code typed exits (drop (i + 1) (take count all)) (length c2) ≡
    c1 ++ body_code typed exits (drop i (take count all)) (length c1)
first_next typed exits all count i s c1 c2 within there is code place =
    rw (first_here all count i s within there is, place, code) (simp append_assoc)

-- a jump over something
some_jump : (b : Bool) (jump_at behind end : ℕ) → (behind == 0) ≡ b → end ≡ jump_at + (one_if (not b) + behind) →
    (instr_if (not b) (Jump (jump_at + 1 + behind), 0) ≡ instr_if (nat_lt jump_at end) (Jump end, 0)) ×
    (one_if (not b) ≡ one_if (nat_lt jump_at end))
some_jump true jump_at behind end is ends =
    let none_ = eqb-true behind 0 is in
    let no : nat_lt jump_at end ≡ false = le-ltb jump_at end (omega (arith, ends, none_)) in rw no (refl, refl)
some_jump false jump_at behind end is ends =
    let all : nat_lt jump_at end ≡ true = lt-ltb jump_at end (omega (arith, ends)) in
    let at : jump_at + 1 + behind ≡ end = omega (arith, ends) in
    rw (all, at) (refl, refl)

-- the jump of an arm, and its size
arm_jump : (goes jumps : Bool) (jump_at behind end : ℕ) →
    end ≡ jump_at + ((if goes then jump_size behind else 0) + behind) →
    jumps ≡ (goes && nat_lt jump_at end) →
    ((if goes then jump_code behind jump_at else []) ≡ instr_if jumps (Jump end, 0)) ×
    ((if goes then jump_size behind else 0) ≡ one_if jumps)
arm_jump false jumps jump_at behind end ends is = rw is (refl, refl)
arm_jump true jumps jump_at behind end ends is =
    rw is (some_jump (behind == 0) jump_at behind end refl ends)

-- there is room for an arm
pub arm_room : (typed : Typed) (arms : List TArm) (i : ℕ) (arm : TArm) (other place end : ℕ) →
    i < length arms → arm ≡ get_or arms i arm → place + arms_size_of typed (drop i arms) other ≡ end →
    behind_arm typed arm end place + arms_size_of typed (drop (i + 1) arms) other ≡ end
arm_room typed arms i arm other place end within is whole =
    let rest = arms_size_of typed (drop (i + 1) arms) other in
    let jump_at = place + test_size typed false false arm.test + stmt_size typed arm.body in
    let here = arms_here typed arms other i (i + 1) arm within is refl in
    let jump = arm_jump (goes_on arm.body) (arm_jumps typed arm end place) jump_at rest end (omega (arith, whole, here)) refl in
    omega (arith, whole, here, jump.1)

-- one more arm
pub arm_next : (typed : Typed) (exits : Exits) (arms : List TArm) (i : ℕ) (arm : TArm) (other : ℕ)
    (behind : ℕ → Listing) (c1 c2 : Listing) (end : ℕ) → i < length arms → arm ≡ get_or arms i arm →
    length c1 + arms_size_of typed (drop i arms) other ≡ end →
    c2 ≡ c1 ++ arm_code typed exits arm end (length c1) → length c2 ≡ behind_arm typed arm end (length c1) →
    (length c2 + arms_size_of typed (drop (i + 1) arms) other ≡ end) ×
    (c2 ++ arms_code_of typed exits (drop (i + 1) arms) other behind (length c2) ≡
    c1 ++ arms_code_of typed exits (drop i arms) other behind (length c1))
arm_next typed exits arms i arm other behind c1 c2 end within is whole code long =
    let rest = arms_size_of typed (drop (i + 1) arms) other in
    let jump_at = length c1 + test_size typed false false arm.test + stmt_size typed arm.body in
    let here = arms_here typed arms other i (i + 1) arm within is refl in
    let jump = arm_jump (goes_on arm.body) (arm_jumps typed arm end (length c1)) jump_at rest end (omega (arith, whole, here)) refl in (
      omega (arith, whole, here, long, jump.1),
      rw (drop_next arms i arm within is, long, code, jump.0, jump.1) (simp append_assoc),
    )

-- the cases of one more group
pub cases_next : (typed : Typed) (groups : List TGroup) (i : ℕ) (group : TGroup) (at next : ℕ) (c1 c2 : Listing) →
    i < length groups → group ≡ get_or groups i group →
    c2 ≡ c1 ++ labels_code group.labels at →
    next ≡ at + sum_by (stmt_size typed) (kept_if (i + 1 == length groups) group.body) →
    c2 ++ cases_code (labels_of_groups (drop (i + 1) groups)) (group_sizes_of typed (drop (i + 1) groups)) next ≡
    c1 ++ cases_code (labels_of_groups (drop i groups)) (group_sizes_of typed (drop i groups)) at
cases_next typed groups i group at next c1 c2 within is code place =
    rw (sizes_here typed groups i group within is, drop_next groups i group within is, place, code) (simp append_assoc)

-- one more group
pub groups_next : (typed : Typed) (exits : Exits) (groups : List TGroup) (i : ℕ) (group : TGroup) (c1 c2 : Listing) →
    i < length groups → group ≡ get_or groups i group →
    c2 ≡ c1 ++ body_code typed exits (kept_if (i + 1 == length groups) group.body) (length c1) →
    length c2 ≡ length c1 + sum_by (stmt_size typed) (kept_if (i + 1 == length groups) group.body) →
    c2 ++ groups_code_of typed exits (drop (i + 1) groups) (length c2) ≡
    c1 ++ groups_code_of typed exits (drop i groups) (length c1)
groups_next typed exits groups i group c1 c2 within is code place =
    let last = is_nil-drop groups (i + 1) (omega (arith, within)) in
    rw (drop_next groups i group within is, last, place, code) (simp append_assoc)

-- Procedures.

-- functions, and other procedures behind them
pub procedures_join : (typed : Typed) (functions : List TFun) (rest : List Procedure) (place : ℕ) →
    procedures_code typed (map of_function functions ++ rest) place ≡
    procedures_code typed (map of_function functions) place ++
    procedures_code typed rest (place + functions_size typed functions)
procedures_join typed [] rest place = rw add-zero refl
procedures_join typed (function ∷ functions) rest place =
    let behind = place_behind typed (of_function function) place in
    let size = sum_by-cons (λ function. procedure_size typed (is_some function.gives) function.body) function functions in
    let end : behind + functions_size typed functions ≡ place + functions_size typed (function ∷ functions) = omega (arith, size) in
    rw (← end)
    (ap (λ l. procedure_code typed (of_function function) place ++ l) (procedures_join typed functions rest behind) ∙
    sym (append_assoc (procedure_code typed (of_function function) place)
    (procedures_code typed (map of_function functions) behind)
    (procedures_code typed rest (behind + functions_size typed functions))))

-- their entries
pub entries_join : (typed : Typed) (functions : List TFun) (rest : List Procedure) (place : ℕ) →
    function_table typed (map of_function functions ++ rest) place ≡
    function_table typed (map of_function functions) place ++
    function_table typed rest (place + functions_size typed functions)
entries_join typed [] rest place = rw add-zero refl
entries_join typed (function ∷ functions) rest place =
    let behind = place_behind typed (of_function function) place in
    let size = sum_by-cons (λ function. procedure_size typed (is_some function.gives) function.body) function functions in
    let end : behind + functions_size typed functions ≡ place + functions_size typed (function ∷ functions) = omega (arith, size) in
    ap (λ l. entry_of typed (of_function function) place ∷ l)
    (entries_join typed functions rest behind ∙
    ap (λ p. function_table typed (map of_function functions) behind ++ function_table typed rest p) end)

-- there are as many entries as functions
pub entries_count : (typed : Typed) (functions : List TFun) (place : ℕ) →
    length (function_table typed (map of_function functions) place) ≡ length functions
entries_count typed [] place = refl
entries_count typed (function ∷ functions) place =
    ap suc (entries_count typed functions (place_behind typed (of_function function) place))
