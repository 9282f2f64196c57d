-- The weight of what statements hold, as lists.
use Rattle.std.specs.Prelude.{ℕ, ◌+◌, ◌*◌, List, [], ◌∷◌, Option, Some, None, length, sum_by}
use Rattle.capl_tree.specs.declared.statement.Stmt.{Stmt}
use Rattle.capl_tree.specs.declared.statement.Arm.{Arm}
use Rattle.capl_tree.specs.declared.statement.Group.{Group}
use Rattle.capl_tree.specs.Weight.{expression_weight, statement_weight}

-- an arm after the first
abbrev pub arm_weight : Arm → ℕ
arm_weight arm = 8 + expression_weight arm.test + statement_weight arm.body

-- an `if` and its arms: the `if` weighs what a further arm would
abbrev pub if_weight : List Arm → ℕ
if_weight [] = 8
if_weight (first ∷ rest) = sum_by arm_weight (first ∷ rest)

-- what stands behind a last `else`
abbrev pub other_weight : Option Stmt → ℕ
other_weight None = 0
other_weight (Some body) = statement_weight body

-- a group of a `switch`
abbrev pub group_weight : Group → ℕ
group_weight group = 8 * length group.labels + sum_by statement_weight group.body
