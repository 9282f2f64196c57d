-- The code of what statements hold, as lists.
use Rattle.std.specs.Prelude.{ℕ, ◌+◌, Bool, false, true, ◌&&◌, nat_lt, if◌then◌else◌, List, [], ◌∷◌, ◌++◌, sum, sum_by, Option, Some, None}
use Rattle.bytecode.specs.declared.instr.Instr.TheVariants as instr
use Rattle.typed_tree.specs.declared.statement.TArm.{TArm}
use Rattle.typed_tree.specs.declared.statement.TGroup.{TGroup}
use Rattle.typed_tree.specs.declared.statement.TStmt.{TStmt}
use Rattle.typed_tree.specs.declared.program.Typed.{Typed}
use Rattle.typed_tree.specs.Shape.{goes_on}
use Rattle.typed_tree.specs.Size.{jump_size, one_if, stmt_size, test_size, value_size}
use Rattle.typed_tree.specs.declared.expression.TExpr.{TExpr}
use Rattle.code_listing.specs.Exit.{Backward, Forward}
use Rattle.code_listing.specs.Expression.{test_code, value_code}
use Rattle.code_listing.specs.Listing.{Listing, instr_if, jump_code}
use Rattle.code_listing.specs.Program.{body_code}
use Rattle.code_listing.specs.Statement.{Exits, cases_code, stmt_code}
use Rattle.code_size.specs.Rows.{arms_size_of, before_default, case_count_of, group_sizes_of, is_nil, kept_if, labels_of_groups}

-- the code of a part that may be missing
abbrev pub part_code_of : Typed → Exits → Option TStmt → ℕ → Listing
part_code_of typed exits None place = []
part_code_of typed exits (Some part) place = stmt_code typed exits part place

-- the code of the arms of an `if`, and of what stands behind them, given by its size and its code
abbrev pub arms_code_of : Typed → Exits → List TArm → ℕ → (ℕ → Listing) → ℕ → Listing
arms_code_of typed exits [] size other place = other place
arms_code_of typed exits (arm ∷ rest) size other place =
    let behind : ℕ = arms_size_of typed rest size in
    let body_at : ℕ = place + test_size typed false false arm.test in
    let jump_at : ℕ = body_at + stmt_size typed arm.body in
    let next : ℕ = jump_at + (if goes_on arm.body then jump_size behind else 0) in
    test_code typed false (Forward next) arm.test place 0 ++ (stmt_code typed exits arm.body body_at ++
    ((if goes_on arm.body then jump_code behind jump_at else []) ++
    arms_code_of typed exits rest size other next))

-- an arm at a place jumps to the end of the `if`: its body goes on, and something is behind it
abbrev pub arm_jumps : Typed → TArm → ℕ → ℕ → Bool
arm_jumps typed arm end place =
    goes_on arm.body && nat_lt (place + test_size typed false false arm.test + stmt_size typed arm.body) end

-- the place behind an arm
abbrev pub behind_arm : Typed → TArm → ℕ → ℕ → ℕ
behind_arm typed arm end place =
    place + test_size typed false false arm.test + stmt_size typed arm.body +
    one_if (arm_jumps typed arm end place)

-- the code of an arm
abbrev pub arm_code : Typed → Exits → TArm → ℕ → ℕ → Listing
arm_code typed exits arm end place =
    test_code typed false (Forward (behind_arm typed arm end place)) arm.test place 0 ++
    (stmt_code typed exits arm.body (place + test_size typed false false arm.test) ++
    instr_if (arm_jumps typed arm end place) (instr.Jump end, 0))

-- the code of the body and of the test of a loop
abbrev pub turn_code : Typed → TExpr → TStmt → ℕ → Listing
turn_code typed test body place =
    let test_at : ℕ = place + stmt_size typed body in
    let end : ℕ = place + (stmt_size typed body + test_size typed true true test) in
    stmt_code typed (record { break_at = end; continue_at = test_at }) body place ++
    test_code typed true (Backward place) test test_at 0

-- the code of the groups of a `switch`
abbrev pub groups_code_of : Typed → Exits → List TGroup → ℕ → Listing
groups_code_of typed exits [] place = []
groups_code_of typed exits (group ∷ rest) place =
    body_code typed exits (kept_if (is_nil rest) group.body) place ++
    groups_code_of typed exits rest (place + sum_by (stmt_size typed) (kept_if (is_nil rest) group.body))

-- the code of a `switch` behind its value: `break` leads to its end
abbrev pub switch_code_of : Typed → Exits → List TGroup → ℕ → Listing
switch_code_of typed exits groups place =
    let sizes : List ℕ = group_sizes_of typed groups in
    let over : ℕ = before_default (labels_of_groups groups) sizes in
    let drop_at : ℕ = place + case_count_of groups in
    let groups_at : ℕ = drop_at + (1 + jump_size over) in
    let end : ℕ = place + (case_count_of groups + (1 + (jump_size over + sum sizes))) in
    let inner : Exits = record { break_at = end; continue_at = exits.continue_at } in
    cases_code (labels_of_groups groups) sizes groups_at ++
    (instr.Drop, 1) ∷ (jump_code over (drop_at + 1) ++ groups_code_of typed inner groups groups_at)

-- the code of a `switch` up to its groups
abbrev pub choice_code : Typed → TExpr → List TGroup → ℕ → Listing
choice_code typed on groups place =
    let sizes : List ℕ = group_sizes_of typed groups in
    let over : ℕ = before_default (labels_of_groups groups) sizes in
    let drop_at : ℕ = place + value_size typed on + case_count_of groups in
    value_code typed on place 0 ++
    (cases_code (labels_of_groups groups) sizes (drop_at + (1 + jump_size over)) ++
    (instr.Drop, 1) ∷ jump_code over (drop_at + 1))
