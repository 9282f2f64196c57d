-- The trees of statements in lists, and their formats.
use Rattle.std.specs.Prelude.{ℕ, ◌+◌, List, [], ◌∷◌, flat_map, filter_map, length, Option, Some, None}
use Rattle.int_kinds.specs.declared.kinds.Kind.{Kind}
use Rattle.write_format.specs.Line.{FormatText}
use Rattle.capl_tree.specs.declared.expr.Expr.{Expr}
use Rattle.capl_tree.specs.declared.statement.Arm.{Arm}
use Rattle.capl_tree.specs.declared.statement.Group.{Group}
use Rattle.capl_tree.specs.declared.statement.Stmt.{Stmt}
use Rattle.capl_meaning.specs.Names.{Scope}
use Rattle.capl_meaning.specs.StatementRules.{label_of}
use Rattle.typed_tree.specs.declared.statement.TArm.{TArm}
use Rattle.typed_tree.specs.declared.statement.TGroup.{TGroup}
use Rattle.typed_tree.specs.declared.statement.TStmt.{TStmt}
use Rattle.typed_source.specs.Expression.{expression_of}
use Rattle.typed_source.specs.Statement.{alone_of, formats_of, statement_of}
use Rattle.typed_source.specs.Program.{body_of, formats_of_body}

-- the formats of arms of an `if`
abbrev pub formats_in_arms : Scope → List Arm → List FormatText
formats_in_arms s arms = flat_map (λ arm. formats_of s arm.body) arms

-- the arms of an `if`
abbrev pub arms_in : Scope → List ℕ → ℕ → List Arm → List TArm
arms_in s order before [] = []
arms_in s order before (first ∷ rest) =
    record { test = expression_of s order first.test; body = statement_of s order before first.body }
    ∷ arms_in s order (before + length (formats_of s first.body)) rest

-- the formats of what stands behind a last `else`
abbrev pub formats_in_else : Scope → Option Stmt → List FormatText
formats_in_else s None = []
formats_in_else s (Some body) = formats_of s body

-- what stands behind a last `else`
abbrev pub else_in : Scope → List ℕ → ℕ → Option Stmt → Option TStmt
else_in s order before None = None
else_in s order before (Some body) = Some (statement_of s order before body)

-- the first or third part of a `for`
abbrev pub part_in : Scope → List ℕ → ℕ → Option Expr → Option TStmt
part_in s order before None = None
part_in s order before (Some e) = Some (alone_of s order before e)

-- the formats of groups of a `switch`
abbrev pub formats_in_groups : Scope → List Group → List FormatText
formats_in_groups s groups = flat_map (λ group. formats_of_body s group.body) groups

-- the groups of a `switch`, with their labels in a kind
abbrev pub groups_in : Scope → List ℕ → Kind → ℕ → List Group → List TGroup
groups_in s order k before [] = []
groups_in s order k before (first ∷ rest) =
    record {
      labels = filter_map (λ label. label_of s k label.at label.value) first.labels;
      body = body_of s order before first.body;
    } ∷ groups_in s order k (before + length (formats_of_body s first.body)) rest
