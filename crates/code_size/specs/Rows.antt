-- The sizes of what statements and programs hold, as lists, and whether control goes on behind it.
use Rattle.std.specs.Prelude.{ℕ, ◌+◌, Bool, true, false, ◌&&◌, ◌||◌, if◌then◌else◌, List, [], ◌∷◌, map, sum, sum_by, is_some, ℤ, Option, Some, None}
use Rattle.std.specs.List.{list_any}
use Rattle.typed_tree.specs.declared.statement.TArm.{TArm}
use Rattle.typed_tree.specs.declared.statement.TGroup.{TGroup}
use Rattle.typed_tree.specs.declared.statement.TStmt.{TStmt}
use Rattle.typed_tree.specs.declared.program.TFun.{TFun}
use Rattle.typed_tree.specs.declared.program.THandler.{THandler}
use Rattle.typed_tree.specs.declared.program.Typed.{Typed}
use Rattle.typed_tree.specs.Shape.{goes_on, is_break}
use Rattle.typed_tree.specs.Size.{case_count, jump_size, procedure_size, stmt_size, test_size}
use Rattle.typed_tree.specs.Statement.{same_label}

-- a list has no items
abbrev pub is_nil : {A : Type 0} → List A → Bool
is_nil [] = true
is_nil (x ∷ xs) = false

-- one of the arms goes on, or what stands behind them
abbrev pub arms_go_on_of : List TArm → Bool → Bool
arms_go_on_of [] other = other
arms_go_on_of (arm ∷ rest) other = goes_on arm.body || arms_go_on_of rest other

-- a part that may be missing goes on
abbrev pub part_goes_on_of : Option TStmt → Bool
part_goes_on_of None = true
part_goes_on_of (Some part) = goes_on part

-- the size of a part that may be missing
abbrev pub part_size_of : Typed → Option TStmt → ℕ
part_size_of typed None = 0
part_size_of typed (Some part) = stmt_size typed part

-- the size of the arms of an `if` and of what stands behind them
abbrev pub arms_size_of : Typed → List TArm → ℕ → ℕ
arms_size_of typed [] other = other
arms_size_of typed (arm ∷ rest) other =
    let behind : ℕ = arms_size_of typed rest other in
    test_size typed false false arm.test + (stmt_size typed arm.body +
    ((if goes_on arm.body then jump_size behind else 0) + behind))

-- the statements but for a `break` at their end
abbrev pub kept : List TStmt → List TStmt
kept [] = []
kept (s ∷ rest) = if is_break s && is_nil rest then [] else s ∷ kept rest

-- the statements of a group that have code; in the last one a `break` at the end has nothing to jump over
abbrev pub kept_if : Bool → List TStmt → List TStmt
kept_if last all = if last then kept all else all

-- the sizes of the groups of a `switch`
abbrev pub group_sizes_of : Typed → List TGroup → List ℕ
group_sizes_of typed [] = []
group_sizes_of typed (group ∷ rest) =
    sum_by (stmt_size typed) (kept_if (is_nil rest) group.body) ∷ group_sizes_of typed rest

-- the size of what stands before the first group with `default`
abbrev pub before_default : List (List (Option ℤ)) → List ℕ → ℕ
before_default (labels ∷ groups) (size ∷ sizes) =
    if list_any (same_label None) labels then 0 else size + before_default groups sizes
before_default groups sizes = 0

-- the labels of each group
abbrev pub labels_of_groups : List TGroup → List (List (Option ℤ))
labels_of_groups groups = map (λ group. group.labels) groups

-- how many `case` labels groups have
abbrev pub case_count_of : List TGroup → ℕ
case_count_of groups = case_count (labels_of_groups groups)

-- the size of a `switch` behind its value
abbrev pub switch_size_of : Typed → List TGroup → ℕ
switch_size_of typed groups = case_count_of groups +
    (1 + (jump_size (before_default (labels_of_groups groups) (group_sizes_of typed groups)) +
    sum (group_sizes_of typed groups)))

-- the size of functions
abbrev pub functions_size : Typed → List TFun → ℕ
functions_size typed functions =
    sum_by (λ function. procedure_size typed (is_some function.gives) function.body) functions

-- the size of event procedures
abbrev pub handlers_size : Typed → List THandler → ℕ
handlers_size typed handlers = sum_by (λ handler. procedure_size typed false handler.body) handlers
