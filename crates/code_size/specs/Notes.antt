-- The extents of statements, as they are noted before code is made of them. What is asked for first stands
-- last: the extent of a statement stands behind those of what is in it, and there the first part stands
-- behind the others.
use Rattle.std.specs.Prelude.{ℕ, ◌-◌, ◌^◌, min, true, ◌&&◌, ◌≡◌, if◌then◌else◌, List, [], ◌∷◌, ◌++◌, length, sum, sum_by, take, Option, Some, None}
use Rattle.typed_tree.specs.declared.statement.TArm.{TArm}
use Rattle.typed_tree.specs.declared.statement.TGroup.{TGroup}
use Rattle.typed_tree.specs.declared.statement.TStmt.{TStmt, Row_of-TStmt, end_of-TStmt, more_of-TStmt}
use Rattle.typed_tree.specs.declared.statement.TStmt.TheVariants.{Block', If', Switch'}
use Rattle.typed_tree.specs.declared.statement.TStmt.TheBlock.{Held-TStmt-If-1, Row_of-TArm, end_of-TArm, more_of-TArm, Row_of-TGroup, end_of-TGroup, more_of-TGroup}
use Rattle.typed_tree.specs.declared.program.Typed.{Typed}
use Rattle.typed_tree.specs.Forms.{Do, For, NoPart, Part, While}
use Rattle.typed_tree.specs.Shape.{goes_on, is_break, is_end, is_end_of_groups}
use Rattle.typed_tree.specs.Size.{group_sizes, last_group_size, part_size, stmt_size, stmts_size}
use Rattle.typed_tree.specs.Statement.{default_group, labels_of}
use Rattle.code_size.specs.declared.extent.Extent.{Extent}
use Rattle.code_size.specs.Rows.{before_default, group_sizes_of, is_nil, kept_if, labels_of_groups}

-- the extent of what has this size, at most 2^64 - 1, to whose end control may come
abbrev pub going_on : ℕ → Extent
going_on size = record { size = min size (2 ^ 64 - 1); goes_on = true }

-- the extent of a statement
abbrev pub extent_of : Typed → TStmt → Extent
extent_of typed s = record { size = min (stmt_size typed s) (2 ^ 64 - 1); goes_on = goes_on s }

-- the notes of a group of a `switch`: those of its statements, how many these are, and its size
abbrev pub group_notes : List Extent → ℕ → List Extent
group_notes inside size = inside ++ record { size = length inside; goes_on = true } ∷ going_on size ∷ []

abbrev mutual
  -- the notes of what is in a statement. A `for` has one more for the size of its third part, and a
  -- `switch` for what stands before the first group with `default`.
  pub inside_notes : Typed → TStmt → List Extent
  inside_notes typed (Block' shape all) = row_notes typed all
  inside_notes typed (If' shape arms other) = part_notes typed other ++ arms_notes typed arms
  inside_notes typed (While test body) = inside_notes typed body ++ extent_of typed body ∷ []
  inside_notes typed (Do body test) = inside_notes typed body ++ extent_of typed body ∷ []
  inside_notes typed (For init test step body) =
      part_notes typed step ++ ((inside_notes typed body ++ extent_of typed body ∷ []) ++
      (part_notes typed init ++ going_on (part_size typed step) ∷ []))
  inside_notes typed (Switch' on shape groups) =
      groups_notes typed groups ++
      going_on (sum (take (default_group (labels_of groups)) (group_sizes typed groups))) ∷ []
  inside_notes typed _ = []

  -- the notes of statements in a row
  pub row_notes : Typed → {m : _} → Row_of-TStmt m → List Extent
  row_notes typed end_of-TStmt = []
  row_notes typed (more_of-TStmt s rest) =
      row_notes typed rest ++ (inside_notes typed s ++ extent_of typed s ∷ [])

  -- the notes of the arms of an `if`
  pub arms_notes : Typed → {m : _} → Row_of-TArm m → List Extent
  arms_notes typed end_of-TArm = []
  arms_notes typed (more_of-TArm test body rest) =
      arms_notes typed rest ++ (inside_notes typed body ++ extent_of typed body ∷ [])

  -- the notes of a part that may be missing
  pub part_notes : Typed → Held-TStmt-If-1 → List Extent
  part_notes typed NoPart = []
  part_notes typed (Part part) = inside_notes typed part ++ extent_of typed part ∷ []

  -- the notes of the groups of a `switch`
  pub groups_notes : Typed → {m : _} → Row_of-TGroup m → List Extent
  groups_notes typed end_of-TGroup = []
  groups_notes typed (more_of-TGroup labels shape body rest) =
      groups_notes typed rest ++
      group_notes (if is_end_of_groups rest then last_notes typed body else row_notes typed body)
      (if is_end_of_groups rest then last_group_size typed body else stmts_size typed body)

  -- the notes of the statements of the last group, but for a `break` at its end
  pub last_notes : Typed → {m : _} → Row_of-TStmt m → List Extent
  last_notes typed end_of-TStmt = []
  last_notes typed (more_of-TStmt s rest) =
      if is_break s && is_end rest then [] else
      last_notes typed rest ++ (inside_notes typed s ++ extent_of typed s ∷ [])

-- the notes of a statement
abbrev pub notes_of : Typed → TStmt → List Extent
notes_of typed s = inside_notes typed s ++ extent_of typed s ∷ []

-- the notes of statements in a row, as a list
abbrev pub all_notes : Typed → List TStmt → List Extent
all_notes typed [] = []
all_notes typed (s ∷ rest) = all_notes typed rest ++ notes_of typed s

-- the notes of the arms of an `if`, as a list
abbrev pub arms_notes_of : Typed → List TArm → List Extent
arms_notes_of typed [] = []
arms_notes_of typed (arm ∷ rest) = arms_notes_of typed rest ++ notes_of typed arm.body

-- the notes of a part that may be missing
abbrev pub part_notes_of : Typed → Option TStmt → List Extent
part_notes_of typed None = []
part_notes_of typed (Some part) = notes_of typed part

-- the notes of the groups of a `switch`, as a list
abbrev pub groups_notes_of : Typed → List TGroup → List Extent
groups_notes_of typed [] = []
groups_notes_of typed (group ∷ rest) =
    groups_notes_of typed rest ++ group_notes (all_notes typed (kept_if (is_nil rest) group.body))
    (sum_by (stmt_size typed) (kept_if (is_nil rest) group.body))

-- the notes of what is in a `switch`
abbrev pub switch_notes_of : Typed → List TGroup → List Extent
switch_notes_of typed groups =
    groups_notes_of typed groups ++
    going_on (before_default (labels_of_groups groups) (group_sizes_of typed groups)) ∷ []

-- notes that stand last among others
abbrev pub StandLast : List Extent → List Extent → Type 0
StandLast last all = (before : List Extent) × (all ≡ before ++ last)
