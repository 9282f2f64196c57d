-- Constants, as they are evaluated in one pass, and the table of const integers.
use Rattle.std.specs.Prelude.{◌≡◌, ℕ, ◌==◌, Bool, true, false, not, ◌&&◌, ◌||◌, if◌then◌else◌, nat_lt, List, find, map, is_some, Option, Some, None, IfSome, ℤ, pos}
use Rattle.std.specs.BTreeMap as btree
use Rattle.std.specs.Option.{option_map}
use Rattle.std.specs.Ordering.{nat_cmp, ordering_then}
use Rattle.std.specs.declared.cmp.Ordering.{Ordering}
use Rattle.int_kinds.specs.declared.kinds.Kind.{Kind}
use Rattle.int_kinds.specs.declared.kinds.Kind.TheVariants.{Char, Long}
use Rattle.int_kinds.specs.declared.operators.BinOp.{BinOp}
use Rattle.int_kinds.specs.declared.operators.UnOp.{UnOp}
use Rattle.int_kinds.specs.Kind.{IsNumber, join, wrap}
use Rattle.capl_tree.specs.declared.expr.Expr.{Expr}
use Rattle.capl_tree.specs.declared.expr.Expr.TheVariants as expr
use Rattle.capl_tree.specs.Forms as tree
use Rattle.capl_meaning.specs.declared.sort.Sort.TheVariants as sort
use Rattle.capl_meaning.specs.Constant.{Constant, chosen, constant_by, constants_of, elements_of, is_constant_prefix, operator_value, scope_of}
use Rattle.capl_meaning.specs.Names.{Names, Scope, direction, means}
use Rattle.capl_meaning.specs.Operator.{prefix_value}
use Rattle.capl_meaning.specs.Sort.{is_bad, kind_in, number_from, sort_of_binary, sort_of_choice, sort_of_form, sort_of_number, sort_of_prefix, working_kind}
use Rattle.capl_meaning.specs.Variable.{Form, Number, Variable, identifier}
use Rattle.check_sorts.specs.declared.constants.Constants.{Constants}
use Rattle.check_sorts.specs.declared.evaluation.Evaluated.{Evaluated}
use Rattle.check_sorts.specs.declared.values.Known.{Known}
use Rattle.check_sorts.specs.declared.values.ValueTable.{ValueTable}

-- ---- the table

-- places in order: by file, and then by token
abbrev pub place_cmp : ℕ × ℕ → ℕ × ℕ → Ordering
place_cmp = λ a b. ordering_then (nat_cmp a.0 b.0) (nat_cmp a.1 b.1)

-- the value that a table has for the const integer whose name stands at a token of a file
abbrev pub held : ValueTable → ℕ → ℕ → Option ℤ
held table file token = btree.get place_cmp table.values (file, token)

-- a place is before another
abbrev pub precedes : ℕ → ℕ → ℕ → ℕ → Bool
precedes file token other_file other_token =
    nat_lt other_file file || (other_file == file && nat_lt other_token token)

-- whether a place is before a limit, if there is one
abbrev pub is_within : Option (ℕ × ℕ) → ℕ → ℕ → Bool
is_within None file token = true
is_within (Some limit) file token = precedes limit.0 limit.1 file token

-- the value that is known of the const integer at a place
abbrev pub known_at : Known → ℕ → ℕ → Option ℤ
known_at k file token =
    if is_within k.before file token then held k.table.now file token else None

-- where the name of a variable stands: its file and its token there
abbrev pub place_of : Variable → ℕ × ℕ
place_of v = (v.file, v.token)

-- a const integer is declared at a place
abbrev pub stands_at : ℕ → ℕ → Constant → Bool
stands_at file token c = c.file == file && c.token == token

-- these values are those of const integers, the first at each place
abbrev pub AreValues : (ℕ → ℕ → Option ℤ) → List Constant → Type 0
AreValues value constants = (file token : ℕ) →
    value file token ≡ option_map (λ c. c.value) (find (stands_at file token) constants)

-- these values are numbers
abbrev pub AreNumbers : (ℕ → ℕ → Option ℤ) → Type 0
AreNumbers value = (file token : ℕ) (n : ℤ) → value file token ≡ Some n → IsNumber n

-- ---- evaluation

-- what is evaluated has a number as its value, if it has one
abbrev pub HasNumber : Option Evaluated → Type 0
HasNumber found = IfSome found (λ v. IfSome v.value IsNumber)

-- a number in the source
abbrev pub number_by : Option ℕ → Bool → Option Evaluated
number_by value extended =
    if is_bad (sort_of_number value extended) then None else Some (record {
      sort = sort_of_number value extended;
      value = option_map (λ n. pos (identifier n extended)) value;
    })

-- a name, by what it means and the values of const integers
abbrev pub name_by : (ℕ → ℕ → Option ℤ) → List ℕ → Option Variable → Option Evaluated
name_by value name None =
    option_map (λ n. record { sort = sort.Number Long; value = Some (pos n) }) (direction name)
name_by value name (Some v) =
    option_map (λ n. record { sort = sort_of_form v.form; value = Some n }) (value v.file v.token)

-- a cast
abbrev pub cast_by : Kind → Option Evaluated → Option Evaluated
cast_by k inner = option_map (λ v. record {
  sort = number_from v.sort k;
  value = option_map (wrap k) v.value;
}) inner

-- a prefix operator
abbrev pub prefix_by : UnOp → Option Evaluated → Option Evaluated
prefix_by operator None = None
prefix_by operator (Some v) =
    if is_constant_prefix operator then Some (record {
      sort = sort_of_prefix operator false v.sort;
      value = option_map (prefix_value operator (join (kind_in v.sort) (kind_in v.sort))) v.value;
    }) else None

-- a binary operator
abbrev pub binary_by : BinOp → Option Evaluated → Option Evaluated → Option Evaluated
binary_by operator (Some left) (Some right) = Some (record {
  sort = sort_of_binary operator left.sort right.sort;
  value = operator_value operator (working_kind operator (kind_in left.sort) (kind_in right.sort))
      left.value right.value;
})
binary_by operator _ _ = None

-- `?:`
abbrev pub choice_by : Option Evaluated → Option Evaluated → Option Evaluated → Option Evaluated
choice_by (Some test) (Some one) (Some other) = Some (record {
  sort = sort_of_choice test.sort one.sort other.sort;
  value = option_map (wrap (join (kind_in one.sort) (kind_in other.sort)))
      (chosen test.value one.value other.value);
})
choice_by _ _ _ = None

-- an expression, if it is a constant, by the values of const integers
abbrev pub evaluated : (ℕ → ℕ → Option ℤ) → Scope → Expr → Option Evaluated
evaluated value s (expr.Num n extended at) = number_by n extended
evaluated value s (expr.Char byte at) =
    Some (record { sort = sort.Number Char; value = Some (pos byte) })
evaluated value s (expr.Name name at) = name_by value name (means s name at)
evaluated value s (tree.Paren inner at) = evaluated value s inner
evaluated value s (tree.Cast kind inner at) = cast_by kind (evaluated value s inner)
evaluated value s (tree.Unary operator inner at) = prefix_by operator (evaluated value s inner)
evaluated value s (tree.Binary operator left right at) =
    binary_by operator (evaluated value s left) (evaluated value s right)
evaluated value s (tree.Cond test one other at) =
    choice_by (evaluated value s test) (evaluated value s one) (evaluated value s other)
evaluated value s _ = None

-- ---- all constants

-- the kind of a const integer
abbrev pub fixed_kind : Form → Option Kind
fixed_kind (Number k true) = Some k
fixed_kind _ = None

-- the const integer of a variable, if it is one, behind those that are known
abbrev pub constant_of : Names → List Constant → Variable → List Constant
constant_of names known v = constant_by known (scope_of names v) v v.form

-- a table has the values of the const integers of a program, and they are numbers
pub record HasValuesOf (names : Names) (table : ValueTable) : Type 0 where
  pub same : AreValues (held table) (constants_of names)
  pub numbers : AreNumbers (held table)

-- the constants of a program: the values of its const integers, and how many elements its arrays have
pub record AreConstantsOf (names : Names) (constants : Constants) : Type 0 where
  pub values : HasValuesOf names constants.values
  pub lengths : constants.lengths.items ≡ map (elements_of names) names.variables
