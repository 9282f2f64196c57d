-- What is asked of the arms of an `if`, of the groups of a `switch` and of a part that may be missing, as
-- lists.
use Rattle.std.specs.Prelude.{◌<◌, ◌^◌, ◌≢◌, List, length, flat_map, Option, None, Some, IfSome, All, AllPairs, ⊤}
use Rattle.std.specs.List.{AllByRecursion}
use Rattle.int_kinds.specs.Kind.{IsNumber}
use Rattle.typed_tree.specs.declared.statement.TArm.{TArm}
use Rattle.typed_tree.specs.declared.statement.TGroup.{TGroup}
use Rattle.typed_tree.specs.declared.statement.TStmt.{TStmt}
use Rattle.typed_tree.specs.declared.program.Typed.{Typed}
use Rattle.typed_tree.specs.SoundExpression.{IsSoundExpr}
use Rattle.typed_tree.specs.SoundStatement.{Around, IsPlainStmt, IsSoundStmt}

-- an arm
abbrev pub IsSoundArm : Typed → Around → TArm → Type 0
IsSoundArm typed around arm = IsSoundExpr typed around.number arm.test × IsSoundStmt typed around arm.body

-- a group, of fewer than 2^32 statements
abbrev pub IsSoundGroup : Typed → Around → TGroup → Type 0
IsSoundGroup typed around group =
    (length group.body < 2 ^ 32) × AllByRecursion (IsSoundStmt typed around) group.body

-- a part that may be missing
abbrev pub IsSoundPartOf : Typed → Around → Option TStmt → Type 0
IsSoundPartOf typed around None = ⊤
IsSoundPartOf typed around (Some part) = IsSoundStmt typed around part

-- a part that may be missing may be a part of a `for`
abbrev pub IsPlainPartOf : Option TStmt → Type 0
IsPlainPartOf None = ⊤
IsPlainPartOf (Some part) = IsPlainStmt part

-- labels of groups: in range, and no two the same
pub record KeepsLabels (groups : List TGroup) : Type 0 where
  pub differ : AllPairs (λ a b. a ≢ b) (flat_map (λ group. group.labels) groups)
  pub in_range : All (λ label. IfSome label IsNumber) (flat_map (λ group. group.labels) groups)

-- fewer than 2^32 groups, each of fewer than 2^32 labels
pub record AreFew (groups : List TGroup) : Type 0 where
  pub here : length groups < 2 ^ 32
  pub labels : All (λ group. length group.labels < 2 ^ 32) groups
