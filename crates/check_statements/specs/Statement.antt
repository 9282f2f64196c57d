-- What statements break, as the walks note it: over lists in place of rows.
use Rattle.std.specs.Prelude.{List, [], ◌++◌, flat_map, Option, Some, None}
use Rattle.capl_tree.specs.declared.statement.Arm.{Arm}
use Rattle.capl_tree.specs.declared.statement.Group.{Group}
use Rattle.capl_tree.specs.declared.statement.Label.{Label}
use Rattle.capl_tree.specs.declared.statement.Stmt.{Stmt}
use Rattle.capl_meaning.specs.declared.offence.Offence.{Offence}
use Rattle.capl_meaning.specs.ExpressionRules.{integer_offences}
use Rattle.capl_meaning.specs.Names.{Scope}
use Rattle.capl_meaning.specs.StatementRules as meant
use Rattle.capl_meaning.specs.StatementRules.{label_offences, statement_offences}
use Rattle.check_statements.specs.declared.around.Around.{Around}

-- what a statement stands in
abbrev pub around_in : Around → meant.Around
around_in around = record { breakable = around.breakable; continuable = around.continuable }

-- what statements break
abbrev pub all_offences : Scope → meant.Around → List Stmt → List Offence
all_offences s around all = flat_map (statement_offences s around) all

-- what an arm of an `if` breaks
abbrev pub arm_offences : Scope → meant.Around → Arm → List Offence
arm_offences s around arm = integer_offences s arm.test ++ statement_offences s around arm.body

-- what stands behind a last `else` breaks
abbrev pub else_offences : Scope → meant.Around → Option Stmt → List Offence
else_offences s around None = []
else_offences s around (Some body) = statement_offences s around body

-- what a group of a `switch` breaks
abbrev pub group_offences : Scope → meant.Around → Group → List Offence
group_offences s around group = flat_map (label_offences s) group.labels ++ all_offences s around group.body

-- the labels of groups
abbrev pub labels_in : List Group → List Label
labels_in groups = flat_map (λ group. group.labels) groups
