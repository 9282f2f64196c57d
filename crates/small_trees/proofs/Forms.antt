-- What well formed statements have in them.
use Rattle.std.proofs.Common.{List}
use Rattle.std.specs.Prelude.{⊤}
use Rattle.capl_tree.specs.declared.expr.Expr.{Expr}
use Rattle.capl_tree.specs.declared.statement.Stmt.{Stmt, Row_of-Stmt, more_of-Stmt}
use Rattle.capl_tree.specs.declared.statement.Stmt.TheBlock.{Row_of-Arm, end_of-Arm, more_of-Arm, Row_of-Group, end_of-Group, more_of-Group, Held-Stmt-If-1}
use Rattle.capl_tree.specs.declared.statement.Stmt.TheVariants as stmt
use Rattle.capl_tree.specs.declared.statement.Label.{Label}
use Rattle.capl_tree.specs.Grammar.{AreArms, AreGroups, AreLabels, AreStatements, IsBodyPart, IsStatement}

-- a statement is a part of a body
pub as_part : (s : Stmt) → IsStatement s → IsBodyPart s
as_part (stmt.Decl declaration) is = absurd is
as_part s is = is

-- the first of a row, and the others
pub row_parts : {m : _} (first : Stmt) (rest : Row_of-Stmt m) → AreStatements (more_of-Stmt first rest) → IsBodyPart first × AreStatements rest
row_parts (stmt.Decl declaration) rest is = is
row_parts first rest is = is

-- arms behind the first
abbrev pub AreFurtherArms : {m : _} → Row_of-Arm m → Held-Stmt-If-1 → Type 0
AreFurtherArms end_of-Arm other = ⊤
AreFurtherArms (more_of-Arm test body rest) other = AreArms (more_of-Arm test body rest) other

-- the body of the first arm, and the other arms
pub arm_parts : {m : _} (test : Expr) (body : Stmt) (rest : Row_of-Arm m) (other : Held-Stmt-If-1) → AreArms (more_of-Arm test body rest) other →
    IsBodyPart body × AreFurtherArms rest other
arm_parts test body end_of-Arm other is = (as_part body is.1, tt)
arm_parts test body (more_of-Arm next next_body rest) other is = (as_part body is.1, is.3)

-- the first group, and the others
pub group_parts : {m : _} (labels : List Label) (shape : _) (body : _) (rest : Row_of-Group m) → AreGroups (more_of-Group labels shape body rest) →
    AreLabels labels × AreStatements body × AreGroups rest
group_parts labels shape body end_of-Group is = (is.0, is.1, tt)
group_parts labels shape body (more_of-Group next next_shape next_body rest) is = (is.0, is.1, is.3)
