-- The rules that a statement and its parts break (CAPL manual, statements).
use Rattle.std.specs.Prelude.{ℕ, Bool, true, false, not, ◌||◌, if◌then◌else◌, List, [], ◌∷◌, ◌++◌, filter_map, flat_map, is_none, map, Option, Some, None, ℤ}
use Rattle.std.specs.List.{list_any}
use Rattle.std.specs.Option.{option_map, option_to_list}
use Rattle.std.specs.Ordering.{int_eq}
use Rattle.int_kinds.specs.declared.kinds.Kind.{Kind}
use Rattle.int_kinds.specs.Kind.{join, wrap}
use Rattle.capl_tree.specs.declared.expr.Expr.{Expr}
use Rattle.capl_tree.specs.declared.statement.Stmt.{Stmt, Row_of-Stmt, end_of-Stmt, more_of-Stmt}
use Rattle.capl_tree.specs.declared.statement.Stmt.TheBlock.{Row_of-Arm, end_of-Arm, more_of-Arm, Row_of-Group, end_of-Group, more_of-Group, Held-Stmt-If-1}
use Rattle.capl_tree.specs.declared.statement.Stmt.TheVariants as stmt
use Rattle.capl_tree.specs.declared.statement.Label.{Label}
use Rattle.capl_tree.specs.Forms as tree
use Rattle.capl_meaning.specs.declared.offence.Offence.{Offence}
use Rattle.capl_meaning.specs.declared.sort.Sort.{Sort}
use Rattle.capl_meaning.specs.Names.{Scope}
use Rattle.capl_meaning.specs.Sort.{is_number, kind_in, sort_of}
use Rattle.capl_meaning.specs.Constant.{constant_at}
use Rattle.capl_meaning.specs.ExpressionRules.{broken_where, integer_offences, offence, offences}
use Rattle.capl_meaning.specs.DeclarationRules.{constant_offences, declaration_offences}

-- of things, those that are the same as an earlier one, where some are known to be earlier
abbrev pub repeated : {A : Type 0} → (A → A → Bool) → List A → List A → List A
repeated same earlier [] = []
repeated same earlier (x ∷ xs) =
    (if list_any (same x) earlier then x ∷ [] else []) ++ repeated same (x ∷ earlier) xs

-- what a statement stands in: a loop or a `switch`, so that a `break` may stand here; a loop, so that a
-- `continue` may
pub record Around : Type 0 where
  pub breakable : Bool
  pub continuable : Bool

-- the body of a procedure
abbrev pub in_body : Around
in_body = record { breakable = false; continuable = false }

-- the body of a loop
abbrev pub in_loop : Around
in_loop = record { breakable = true; continuable = true }

-- the groups of a `switch`
abbrev pub in_switch : Around → Around
in_switch around = record around { breakable = true }

-- E24: `return` with a value where nothing is given, or without one where a number is
abbrev pub return_rule : Scope → ℕ → Option Kind → Option Expr → List Offence
return_rule s at None (Some value) = offence s at 24 ∷ []
return_rule s at (Some k) None = offence s at 24 ∷ []
return_rule s at _ _ = []

-- a label, where none stands for `default`: the number of its constant, wrapped to a kind; what is no
-- constant is no label
abbrev pub label_of : Scope → Kind → ℕ → Option Expr → Option (Option ℤ)
label_of s k at None = Some None
label_of s k at (Some value) = option_map (λ n. Some (wrap k n)) (constant_at s at value)

-- two labels are the same
abbrev pub same_label : Option ℤ → Option ℤ → Bool
same_label None None = true
same_label (Some m) (Some n) = int_eq m n
same_label _ _ = false

-- a label of a `switch` over an expression of this sort, with its token; where that is no number, `default`
-- alone is one
abbrev pub label_at : Scope → Sort → Label → Option (ℕ × Option ℤ)
label_at s on label =
    option_map (λ said. (label.at, said)) (if is_number on || is_none label.value
    then label_of s (join (kind_in on) (kind_in on)) label.at label.value else None)

-- the labels of all groups
abbrev pub labels_said : {m : _} → Row_of-Group m → List Label
labels_said end_of-Group = []
labels_said (more_of-Group labels shape body rest) = labels ++ labels_said rest

-- E20: two labels are equal after wrapping to the kind in which the `switch` compares, or two are `default`
abbrev pub labels_rule : Scope → Sort → List Label → List Offence
labels_rule s on labels =
    map (λ said. offence s said.0 20)
    (repeated (λ a b. same_label a.1 b.1) [] (filter_map (label_at s on) labels))

-- what the value of a label breaks: a constant is needed
abbrev pub label_offences : Scope → Label → List Offence
label_offences s label = flat_map (constant_offences s label.at) (option_to_list label.value)

-- what an expression that stands alone breaks, if it is there
abbrev pub alone_offences : Scope → Option Expr → List Offence
alone_offences s part = flat_map (offences s) (option_to_list part)

-- what an expression breaks of which an integer is needed, if it is there
abbrev pub needed_offences : Scope → Option Expr → List Offence
needed_offences s part = flat_map (integer_offences s) (option_to_list part)

abbrev mutual
  -- what a statement and its parts break
  pub statement_offences : Scope → Around → Stmt → List Offence
  statement_offences s around stmt.Empty = []
  statement_offences s around (stmt.Block' shape body) = offences_of_statements s around body
  statement_offences s around (stmt.Decl declaration) = declaration_offences s declaration
  statement_offences s around (stmt.Expr e) = offences s e
  statement_offences s around (stmt.If' shape arms other) =
      offences_of_arms s around arms ++ offences_of_else s around other
  statement_offences s around (tree.While test body) =
      integer_offences s test ++ statement_offences s in_loop body
  statement_offences s around (tree.Do body test) =
      statement_offences s in_loop body ++ integer_offences s test
  statement_offences s around (tree.For init test step body) =
      alone_offences s init ++ (needed_offences s test ++ (alone_offences s step
      ++ statement_offences s in_loop body))
  statement_offences s around (stmt.Switch' on shape groups) =
      integer_offences s on ++ (labels_rule s (sort_of s on) (labels_said groups)
      ++ offences_of_groups s (in_switch around) groups)
  statement_offences s around (stmt.Break at) = broken_where (not around.breakable) s at 22
  statement_offences s around (stmt.Continue at) = broken_where (not around.continuable) s at 22
  statement_offences s around (stmt.Return value at) =
      return_rule s at s.gives value ++ needed_offences s value

  -- what statements in a row break
  pub offences_of_statements : Scope → Around → {m : _} → Row_of-Stmt m → List Offence
  offences_of_statements s around end_of-Stmt = []
  offences_of_statements s around (more_of-Stmt first rest) =
      statement_offences s around first ++ offences_of_statements s around rest

  -- what the arms of an `if` break
  pub offences_of_arms : Scope → Around → {m : _} → Row_of-Arm m → List Offence
  offences_of_arms s around end_of-Arm = []
  offences_of_arms s around (more_of-Arm test body rest) =
      integer_offences s test ++ (statement_offences s around body ++ offences_of_arms s around rest)

  -- what stands behind a last `else` breaks
  pub offences_of_else : Scope → Around → Held-Stmt-If-1 → List Offence
  offences_of_else s around tree.NoElse = []
  offences_of_else s around (tree.Else body) = statement_offences s around body

  -- what the groups of a `switch` break
  pub offences_of_groups : Scope → Around → {m : _} → Row_of-Group m → List Offence
  offences_of_groups s around end_of-Group = []
  offences_of_groups s around (more_of-Group labels shape body rest) =
      flat_map (label_offences s) labels
      ++ (offences_of_statements s around body ++ offences_of_groups s around rest)
