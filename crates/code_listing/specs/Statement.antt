-- The code of a statement, of each variant, from a place on. Nothing is on the stack where a statement begins
-- and ends; the value of a `switch` is, while its labels are tried.
--
-- A loop's test stands below its body and is entered by one jump, so that a round costs one instruction that
-- goes back. Each arm of an `if` jumps once, over what is behind it. A `switch` is one chain of cases.
use Rattle.std.specs.Prelude.{ℕ, ◌+◌, true, false, ◌&&◌, if◌then◌else◌, List, [], ◌∷◌, ◌++◌, length, sum, take, ℤ, pos, Option, Some, None}
use Rattle.bytecode.specs.declared.instr.Instr.TheVariants as instr
use Rattle.typed_tree.specs.declared.expression.TExpr.{TExpr}
use Rattle.typed_tree.specs.declared.expression.TExpr.TheVariants.{Bump}
use Rattle.typed_tree.specs.declared.statement.TStmt.{TStmt, Row_of-TStmt, end_of-TStmt, more_of-TStmt}
use Rattle.typed_tree.specs.declared.statement.TStmt.TheVariants.{Empty, Block', If', Switch', Break, Continue, Return, Eval, Write, Send, Copy, Halt, Set, Cancel}
use Rattle.typed_tree.specs.declared.statement.TStmt.TheBlock.{Held-TStmt-If-1, Row_of-TArm, end_of-TArm, more_of-TArm, Row_of-TGroup, end_of-TGroup, more_of-TGroup}
use Rattle.typed_tree.specs.declared.program.Typed.{Typed}
use Rattle.typed_tree.specs.Forms.{Do, For, NoPart, Part, While}
use Rattle.typed_tree.specs.Statement.{default_group, labels_of}
use Rattle.typed_tree.specs.Shape.{goes_on, is_break, is_end, is_end_of_groups, leaves_number}
use Rattle.typed_tree.specs.Size.{arms_size, case_count, for_test_size, group_sizes, jump_size, last_group_size, part_size, stmt_size, stmts_size, test_size, value_size}
use Rattle.code_listing.specs.Exit.{Backward, Forward}
use Rattle.code_listing.specs.Expression.{test_code, value_code}
use Rattle.code_listing.specs.Listing.{Listing, instr_if, jump_code}

-- the places to which `break` and `continue` lead
pub record Exits : Type 0 where
  pub break_at : ℕ
  pub continue_at : ℕ

-- an expression whose value is dropped: it need not be what a place held before
abbrev pub dropped_code : Typed → TExpr → ℕ → Listing
dropped_code typed (Bump at k up post) place = value_code typed (Bump at k up false) place 0
dropped_code typed e place = value_code typed e place 0

-- a `return`, with its expression
abbrev pub return_code : Typed → Option TExpr → ℕ → Listing
return_code typed None place = (instr.Ret, 0) ∷ []
return_code typed (Some e) place = value_code typed e place 0 ++ (instr.Ret, 1) ∷ []

-- expressions in order, each a number deeper
abbrev pub values_code : Typed → List TExpr → ℕ → ℕ → Listing
values_code typed [] place depth = []
values_code typed (e ∷ rest) place depth =
    value_code typed e place depth ++ values_code typed rest (place + value_size typed e) (depth + 1)

-- A loop: a jump over a body of this size to the test, the body, and the test, which goes back to the body.
-- The body's code is given by its place, and the test's by the body's place and its own.
abbrev pub loop_code : ℕ → (ℕ → Listing) → (ℕ → ℕ → Listing) → ℕ → Listing
loop_code size body test place =
    let body_at : ℕ = place + jump_size size in
    jump_code size place ++ (body body_at ++ test body_at (body_at + size))

-- the test of a loop, which goes back to a place where it is not 0
abbrev pub back_code : Typed → TExpr → ℕ → ℕ → Listing
back_code typed test target place = test_code typed true (Backward target) test place 0

-- the test of a `for`; without one, a number that is not 0 goes back
abbrev pub for_test_code : Typed → Option TExpr → ℕ → ℕ → Listing
for_test_code typed None target place = (instr.Push (pos 1), 0) ∷ (instr.Back target, 1) ∷ []
for_test_code typed (Some e) target place = back_code typed e target place

-- the cases of a group whose statements are at a place
abbrev pub labels_code : List (Option ℤ) → ℕ → Listing
labels_code [] at = []
labels_code (None ∷ labels) at = labels_code labels at
labels_code (Some n ∷ labels) at = (instr.Case at n, 1) ∷ labels_code labels at

-- the cases of groups with these sizes, the first of which is at a place
abbrev pub cases_code : List (List (Option ℤ)) → List ℕ → ℕ → Listing
cases_code (labels ∷ groups) (size ∷ sizes) at = labels_code labels at ++ cases_code groups sizes (at + size)
cases_code groups sizes at = []

-- A `switch` behind its value: the cases, the drop of a value that is none of them, a jump to the group with
-- `default` or else to the end, and the groups, by their labels, their sizes and their code from a place on.
abbrev pub switch_code : List (List (Option ℤ)) → List ℕ → (ℕ → Listing) → ℕ → Listing
switch_code labels sizes groups place =
    let over : ℕ = sum (take (default_group labels) sizes) in
    let drop_at : ℕ = place + case_count labels in
    let groups_at : ℕ = drop_at + (1 + jump_size over) in
    cases_code labels sizes groups_at ++
    (instr.Drop, 1) ∷ (jump_code over (drop_at + 1) ++ groups groups_at)

abbrev mutual
  -- the code of a statement, in which `break` and `continue` lead to these exits
  pub stmt_code : Typed → Exits → TStmt → ℕ → Listing
  stmt_code typed exits Empty place = []
  stmt_code typed exits (Block' shape all) place = stmts_code typed exits all place
  stmt_code typed exits (If' shape arms other) place =
      arms_code typed exits arms (part_size typed other) (part_code typed exits other) place
  stmt_code typed exits (While test body) place =
      let size : ℕ = stmt_size typed body in
      let test_at : ℕ = place + (jump_size size + size) in
      let inner : Exits =
      record { break_at = test_at + test_size typed true true test; continue_at = test_at } in
      loop_code size (stmt_code typed inner body) (back_code typed test) place
  stmt_code typed exits (Do body test) place =
      let test_at : ℕ = place + 1 + stmt_size typed body in
      let inner : Exits =
      record { break_at = test_at + test_size typed true true test; continue_at = test_at } in
      (instr.Turn, 0) ∷
      (stmt_code typed inner body (place + 1) ++ back_code typed test (place + 1) test_at)
  stmt_code typed exits (For init test step body) place =
      let loop_at : ℕ = place + part_size typed init in
      let size : ℕ = stmt_size typed body + part_size typed step in
      let step_at : ℕ = loop_at + (jump_size size + stmt_size typed body) in
      let inner : Exits = record {
        break_at = step_at + (part_size typed step + for_test_size typed test);
        continue_at = step_at;
      } in
      part_code typed exits init place ++ loop_code size
      (λ at. stmt_code typed inner body at ++ part_code typed exits step (at + stmt_size typed body))
      (for_test_code typed test) loop_at
  stmt_code typed exits (Switch' on shape groups) place =
      let sizes : List ℕ = group_sizes typed groups in
      let labels : List (List (Option ℤ)) = labels_of groups in
      let cases_at : ℕ = place + value_size typed on in
      let over : ℕ = sum (take (default_group labels) sizes) in
      let end : ℕ = cases_at + (case_count labels + (1 + (jump_size over + sum sizes))) in
      let inner : Exits = record { break_at = end; continue_at = exits.continue_at } in
      value_code typed on place 0 ++ switch_code labels sizes (groups_code typed inner groups) cases_at
  stmt_code typed exits Break place = (instr.Jump exits.break_at, 0) ∷ []
  stmt_code typed exits Continue place = (instr.Jump exits.continue_at, 0) ∷ []
  stmt_code typed exits (Return value) place = return_code typed value place
  stmt_code typed exits (Eval e) place =
      dropped_code typed e place ++ instr_if (leaves_number typed e) (instr.Drop, 1)
  stmt_code typed exits (Write format args) place =
      values_code typed args place 0 ++ (instr.Write format, length args) ∷ []
  stmt_code typed exits (Send at) place = (instr.Send at, 0) ∷ []
  stmt_code typed exits (Copy to from) place = (instr.Copy to from, 0) ∷ []
  stmt_code typed exits Halt place = (instr.Stop, 0) ∷ []
  stmt_code typed exits (Set timer cyclic e) place =
      value_code typed e place 0 ++ (instr.Set timer cyclic, 1) ∷ []
  stmt_code typed exits (Cancel timer) place = (instr.Cancel timer, 0) ∷ []

  -- the code of statements in a row
  pub stmts_code : Typed → Exits → {m : _} → Row_of-TStmt m → ℕ → Listing
  stmts_code typed exits end_of-TStmt place = []
  stmts_code typed exits (more_of-TStmt s rest) place =
      stmt_code typed exits s place ++ stmts_code typed exits rest (place + stmt_size typed s)

  -- The code of the arms of an `if`, and of what stands behind them, given by its size and its code. An arm
  -- jumps over the rest, but where its body does not go on or nothing is behind it.
  pub arms_code : Typed → Exits → {m : _} → Row_of-TArm m → ℕ → (ℕ → Listing) → ℕ → Listing
  arms_code typed exits end_of-TArm size other place = other place
  arms_code typed exits (more_of-TArm test body rest) size other place =
      let behind : ℕ = arms_size typed rest size in
      let body_at : ℕ = place + test_size typed false false test in
      let jump_at : ℕ = body_at + stmt_size typed body in
      let next : ℕ = jump_at + (if goes_on body then jump_size behind else 0) in
      test_code typed false (Forward next) test place 0 ++ (stmt_code typed exits body body_at ++
      ((if goes_on body then jump_code behind jump_at else []) ++
      arms_code typed exits rest size other next))

  -- the code of a part that may be missing
  pub part_code : Typed → Exits → Held-TStmt-If-1 → ℕ → Listing
  part_code typed exits NoPart place = []
  part_code typed exits (Part part) place = stmt_code typed exits part place

  -- the code of the groups of a `switch`
  pub groups_code : Typed → Exits → {m : _} → Row_of-TGroup m → ℕ → Listing
  groups_code typed exits end_of-TGroup place = []
  groups_code typed exits (more_of-TGroup labels shape body rest) place =
      (if is_end_of_groups rest
      then last_group_code typed exits body place else stmts_code typed exits body place) ++
      groups_code typed exits rest
      (place + (if is_end_of_groups rest then last_group_size typed body else stmts_size typed body))

  -- the code of the last group, where a `break` at its end has nothing to jump over
  pub last_group_code : Typed → Exits → {m : _} → Row_of-TStmt m → ℕ → Listing
  last_group_code typed exits end_of-TStmt place = []
  last_group_code typed exits (more_of-TStmt s rest) place = if is_break s && is_end rest then [] else
      (stmt_code typed exits s place ++ last_group_code typed exits rest (place + stmt_size typed s))
