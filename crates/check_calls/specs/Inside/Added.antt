-- Functions that are listed as they are called, one part of a program behind the other.
use Rattle.std.specs.Prelude.{◌≡◌, ℕ, List, [], ◌++◌, flat_map, Option, Some, None}
use Rattle.capl_tree.specs.declared.expr.Expr.{Expr}
use Rattle.capl_tree.specs.declared.statement.Arm.{Arm}
use Rattle.capl_tree.specs.declared.statement.Group.{Group}
use Rattle.capl_tree.specs.declared.statement.Stmt.{Stmt}
use Rattle.capl_meaning.specs.Calls.{calls_in, calls_in_labels, names_called}
use Rattle.capl_meaning.specs.Names.{Names}
use Rattle.check_calls.specs.Callees.{callees, calls_of_all, functions_at}

-- to these places were added those of the functions that are called by these names
abbrev pub AreAdded : Names → List ℕ → List ℕ → List (List ℕ) → Type 0
AreAdded names after before all = functions_at names after ≡ functions_at names before ++ callees names all

-- the names that are called in expressions
abbrev pub calls_in_all : List Expr → List (List ℕ)
calls_in_all all = flat_map calls_in all

-- in arms of an `if`
abbrev pub calls_of_list : List Arm → List (List ℕ)
calls_of_list arms = flat_map (λ arm. calls_in arm.test ++ names_called arm.body) arms

-- behind a last `else`
abbrev pub calls_of_other : Option Stmt → List (List ℕ)
calls_of_other None = []
calls_of_other (Some body) = names_called body

-- in groups of a `switch`
abbrev pub calls_of_cases : List Group → List (List ℕ)
calls_of_cases groups = flat_map (λ group. calls_in_labels group.labels ++ calls_of_all group.body) groups
