-- Which functions call which (CAPL manual, functions). There is no recursion.
use Rattle.std.specs.Prelude.{ℕ, zero, suc, ◌==◌, Bool, ◌||◌, List, [], ◌∷◌, ◌++◌, flat_map, filter_map, find, length, Option, Some, None}
use Rattle.std.specs.List.{list_any}
use Rattle.std.specs.Option.{option_map_or, option_to_list}
use Rattle.capl_tree.specs.declared.expr.Expr.{Expr, Row_of-Expr, end_of-Expr, more_of-Expr}
use Rattle.capl_tree.specs.declared.expr.Expr.TheVariants as expr
use Rattle.capl_tree.specs.declared.expr.Field.{Field}
use Rattle.capl_tree.specs.declared.expr.Field.TheVariants.{Named}
use Rattle.capl_tree.specs.declared.declaration.Declr.{Declr}
use Rattle.capl_tree.specs.declared.declaration.Init.{Init}
use Rattle.capl_tree.specs.declared.declaration.Init.TheVariants.{One, Many}
use Rattle.capl_tree.specs.declared.declaration.Item.{Item}
use Rattle.capl_tree.specs.declared.declaration.Item.TheVariants.{Plain, Set}
use Rattle.capl_tree.specs.declared.statement.Stmt.{Stmt, Row_of-Stmt, end_of-Stmt, more_of-Stmt}
use Rattle.capl_tree.specs.declared.statement.Stmt.TheBlock.{Row_of-Arm, end_of-Arm, more_of-Arm, Row_of-Group, end_of-Group, more_of-Group, Held-Stmt-If-1}
use Rattle.capl_tree.specs.declared.statement.Stmt.TheVariants as stmt
use Rattle.capl_tree.specs.declared.statement.Label.{Label}
use Rattle.capl_tree.specs.Forms as tree
use Rattle.capl_meaning.specs.Names.{Callee, Function, Names, OfProgram, callee}

abbrev mutual
  -- the names that are called in an expression; one without parts calls nothing
  pub calls_in : Expr → List (List ℕ)
  calls_in (expr.Call' name shape args at) = name ∷ calls_in_row args
  calls_in (tree.Paren inner at) = calls_in inner
  calls_in (tree.Index base index at) = calls_in base ++ calls_in index
  calls_in (tree.Member base field at) = calls_in base ++ calls_in_field field
  calls_in (tree.Cast kind inner at) = calls_in inner
  calls_in (tree.Unary op inner at) = calls_in inner
  calls_in (tree.Post up inner at) = calls_in inner
  calls_in (tree.Binary op left right at) = calls_in left ++ calls_in right
  calls_in (tree.Cond test one other at) = calls_in test ++ (calls_in one ++ calls_in other)
  calls_in (tree.Assign op left right at) = calls_in left ++ calls_in right
  calls_in _ = []

  -- in the index of a field
  pub calls_in_field : Field → List (List ℕ)
  calls_in_field (Named name at) = []
  calls_in_field (tree.Bytes kind index at) = calls_in index

  -- in expressions in a row
  pub calls_in_row : {m : _} → Row_of-Expr m → List (List ℕ)
  calls_in_row end_of-Expr = []
  calls_in_row (more_of-Expr first rest) = calls_in first ++ calls_in_row rest

-- the names that are called in an expression that may be missing
abbrev pub calls_in_part : Option Expr → List (List ℕ)
calls_in_part part = flat_map calls_in (option_to_list part)

-- in an item of an initialiser
abbrev pub calls_in_item : Item → List (List ℕ)
calls_in_item (Plain value) = calls_in value
calls_in_item (Set field value) = calls_in_field field ++ calls_in value

-- in an initialiser
abbrev pub calls_in_init : Init → List (List ℕ)
calls_in_init (One value) = calls_in value
calls_in_init (Many items at) = flat_map calls_in_item items

-- in a declared variable
abbrev pub calls_in_declarator : Declr → List (List ℕ)
calls_in_declarator d = calls_in_part d.size ++ flat_map calls_in_init (option_to_list d.init)

-- in labels
abbrev pub calls_in_labels : List Label → List (List ℕ)
calls_in_labels labels = flat_map (λ label. calls_in_part label.value) labels

abbrev mutual
  -- the names that are called in a statement; one without parts calls nothing
  pub names_called : Stmt → List (List ℕ)
  names_called (stmt.Block' shape body) = calls_of_row body
  names_called (stmt.Decl declaration) = flat_map calls_in_declarator declaration.items
  names_called (stmt.Expr e) = calls_in e
  names_called (stmt.If' shape arms other) = calls_of_arms arms ++ calls_of_else other
  names_called (tree.While test body) = calls_in test ++ names_called body
  names_called (tree.Do body test) = names_called body ++ calls_in test
  names_called (tree.For init test step body) =
      calls_in_part init ++ (calls_in_part test ++ (calls_in_part step ++ names_called body))
  names_called (stmt.Switch' on shape groups) = calls_in on ++ calls_of_groups groups
  names_called (stmt.Return value at) = calls_in_part value
  names_called _ = []

  -- in statements in a row
  pub calls_of_row : {m : _} → Row_of-Stmt m → List (List ℕ)
  calls_of_row end_of-Stmt = []
  calls_of_row (more_of-Stmt first rest) = names_called first ++ calls_of_row rest

  -- in the arms of an `if`
  pub calls_of_arms : {m : _} → Row_of-Arm m → List (List ℕ)
  calls_of_arms end_of-Arm = []
  calls_of_arms (more_of-Arm test body rest) = calls_in test ++ (names_called body ++ calls_of_arms rest)

  -- behind a last `else`
  pub calls_of_else : Held-Stmt-If-1 → List (List ℕ)
  calls_of_else tree.NoElse = []
  calls_of_else (tree.Else body) = names_called body

  -- in the groups of a `switch`
  pub calls_of_groups : {m : _} → Row_of-Group m → List (List ℕ)
  calls_of_groups end_of-Group = []
  calls_of_groups (more_of-Group labels shape body rest) =
      calls_in_labels labels ++ (calls_of_row body ++ calls_of_groups rest)

-- the number of the function of the program that a call is of
abbrev pub number_of_callee : Callee → Option ℕ
number_of_callee (OfProgram f) = Some f.number
number_of_callee _ = None

-- the function of a number
abbrev pub function_numbered : Names → ℕ → Option Function
function_numbered names number = find (λ f. f.number == number) names.functions

-- the numbers of the functions that a function calls
abbrev pub called_by : Names → Function → List ℕ
called_by names f = filter_map (λ name. number_of_callee (callee names name)) (flat_map names_called f.body)

-- the same, of a function given by its number
abbrev pub called_by_number : Names → ℕ → List ℕ
called_by_number names number = option_map_or (called_by names) (function_numbered names number) []

-- from one function another is reached by at most so many calls
abbrev pub reaches_within : Names → ℕ → ℕ → ℕ → Bool
reaches_within names zero from to = from == to
reaches_within names (suc n) from to =
    from == to || list_any (λ next. reaches_within names n next to) (called_by_number names from)

-- from one function another is reached by calls; where it is, no more calls are needed than there are
-- functions
abbrev pub reaches : Names → ℕ → ℕ → Bool
reaches names from to = reaches_within names (length names.functions) from to
