-- Constants of a source and their values: numbers, characters, const integers declared before, RX and TX, and
-- these under parentheses, casts, unary `- + ! ~`, binary operators and `?:`.
use Rattle.std.specs.Prelude.{ℕ, ◌==◌, Bool, true, false, not, ◌&&◌, ◌||◌, if◌then◌else◌, nat_le, nat_lt, List, [], ◌∷◌, ◌++◌, filter, find, is_some, Option, Some, None, unwrap_or, ℤ, pos, negsuc}
use Rattle.std.specs.Option.{option_and_then, option_map, option_map_or}
use Rattle.std.specs.Ordering.{int_eq}
use Rattle.int_kinds.specs.declared.kinds.Kind.{Kind}
use Rattle.int_kinds.specs.declared.operators.BinOp.{BinOp}
use Rattle.int_kinds.specs.declared.operators.BinOp.TheVariants as op
use Rattle.int_kinds.specs.declared.operators.UnOp.{UnOp}
use Rattle.int_kinds.specs.declared.operators.UnOp.TheVariants as prefix
use Rattle.int_kinds.specs.Kind.{join, wrap}
use Rattle.int_kinds.specs.Arithmetic.{value}
use Rattle.capl_tree.specs.declared.declaration.Init.{Init}
use Rattle.capl_tree.specs.declared.declaration.Init.TheVariants.{One}
use Rattle.capl_tree.specs.declared.expr.Expr.{Expr}
use Rattle.capl_tree.specs.declared.expr.Expr.TheVariants as expr
use Rattle.capl_tree.specs.Forms as tree
use Rattle.capl_meaning.specs.Variable.{Form, Number, Array, Variable, identifier}
use Rattle.capl_meaning.specs.Names.{Names, NoThis, Scope, direction, means}
use Rattle.capl_meaning.specs.Operator.{prefix_value, truth_of}
use Rattle.capl_meaning.specs.Sort.{is_bad, kind_in, sort_of, sort_of_number, working_kind}

-- a const integer: where it is declared, and its value
pub record Constant : Type 0 where
  pub file : ℕ
  pub token : ℕ
  pub value : ℤ

-- a const integer is that of a variable
abbrev pub is_constant_of : Variable → Constant → Bool
is_constant_of v c = c.file == v.file && c.token == v.token

-- the value of a name, by what it means: that of a known const integer, or of RX and TX
abbrev pub constant_of_name : List Constant → List ℕ → Option Variable → Option ℤ
constant_of_name known name None = option_map pos (direction name)
constant_of_name known name (Some v) = option_map (λ c. c.value) (find (is_constant_of v) known)

-- `-`, `+`, `!` and `~` are operators of constants
abbrev pub is_constant_prefix : UnOp → Bool
is_constant_prefix prefix.Up = false
is_constant_prefix prefix.Down = false
is_constant_prefix _ = true

-- an expression is a constant, where these const integers are known; a number that is too great is bad, and
-- no constant
abbrev pub is_constant : List Constant → Scope → Expr → Bool
is_constant known s (expr.Num value extended at) = not (is_bad (sort_of_number value extended))
is_constant known s (expr.Char value at) = true
is_constant known s (expr.Name name at) = is_some (constant_of_name known name (means s name at))
is_constant known s (tree.Paren inner at) = is_constant known s inner
is_constant known s (tree.Cast kind inner at) = is_constant known s inner
is_constant known s (tree.Unary operator inner at) =
    is_constant_prefix operator && is_constant known s inner
is_constant known s (tree.Binary operator left right at) =
    is_constant known s left && is_constant known s right
is_constant known s (tree.Cond test one other at) =
    is_constant known s test && (is_constant known s one && is_constant known s other)
is_constant known s _ = false

-- the kind in which a prefix operator works on an operand: its kind joined with itself
abbrev pub prefix_kind : Scope → Expr → Kind
prefix_kind s e = join (kind_in (sort_of s e)) (kind_in (sort_of s e))

-- the kind in which an operator works on two operands
abbrev pub operands_kind : Scope → BinOp → Expr → Expr → Kind
operands_kind s operator left right =
    working_kind operator (kind_in (sort_of s left)) (kind_in (sort_of s right))

-- the kind of `?:` with these branches
abbrev pub branches_kind : Scope → Expr → Expr → Kind
branches_kind s one other = join (kind_in (sort_of s one)) (kind_in (sort_of s other))

-- one of two numbers, by a third that is not 0 or is
abbrev pub chosen : Option ℤ → Option ℤ → Option ℤ → Option ℤ
chosen test one other = option_and_then (λ n. if int_eq n (pos 0) then other else one) test

-- the value of an operator, if there is one; `&&` and `||` evaluate only what they need
abbrev pub operator_value : BinOp → Kind → Option ℤ → Option ℤ → Option ℤ
operator_value op.AndAlso k left right = chosen left (option_map truth_of right) (Some (pos 0))
operator_value op.OrElse k left right = chosen left (Some (pos 1)) (option_map truth_of right)
operator_value operator k left right =
    option_and_then (λ m. option_and_then (λ n. value operator k m n) right) left

-- the value of a constant; none where it divides by zero
abbrev pub constant_value : List Constant → Scope → Expr → Option ℤ
constant_value known s (expr.Num value extended at) = option_map (λ n. pos (identifier n extended)) value
constant_value known s (expr.Char value at) = Some (pos value)
constant_value known s (expr.Name name at) = constant_of_name known name (means s name at)
constant_value known s (tree.Paren inner at) = constant_value known s inner
constant_value known s (tree.Cast kind inner at) = option_map (wrap kind) (constant_value known s inner)
constant_value known s (tree.Unary operator inner at) =
    option_map (prefix_value operator (prefix_kind s inner)) (constant_value known s inner)
constant_value known s (tree.Binary operator left right at) =
    operator_value operator (operands_kind s operator left right)
    (constant_value known s left) (constant_value known s right)
constant_value known s (tree.Cond test one other at) =
    option_map (wrap (branches_kind s one other)) (chosen (constant_value known s test)
    (constant_value known s one) (constant_value known s other))
constant_value known s _ = None

-- the number of an expression that is a constant and has a value
abbrev pub constant : List Constant → Scope → Expr → Option ℤ
constant known s e = if is_constant known s e then constant_value known s e else None

-- where a variable is declared
abbrev pub scope_of : Names → Variable → Scope
scope_of names v = record { names = names; owner = v.owner; file = v.file; this = NoThis; gives = None }

-- the first value of a number variable: its constant, wrapped to its kind, and 0 where there is none
abbrev pub first_number : List Constant → Scope → Kind → Option Init → ℤ
first_number known s k (Some (One e)) = option_map_or (wrap k) (constant known s e) (pos 0)
first_number known s k _ = pos 0

-- the const integer of a variable, if it is one, where these are known
abbrev pub constant_by : List Constant → Scope → Variable → Form → List Constant
constant_by known s v (Number k true) =
    record { file = v.file; token = v.token; value = first_number known s k v.init } ∷ []
constant_by known s v _ = []

-- the const integers of variables, behind those that are known before them
abbrev pub constants_behind : Names → List Constant → List Variable → List Constant
constants_behind names known [] = known
constants_behind names known (v ∷ vs) =
    constants_behind names (known ++ constant_by known (scope_of names v) v v.form) vs

-- the const integers of a program
abbrev pub constants_of : Names → List Constant
constants_of names = constants_behind names [] names.variables

-- a const integer is declared before a token of a file
abbrev pub is_before : ℕ → ℕ → Constant → Bool
is_before file token c = nat_lt c.file file || (c.file == file && nat_lt c.token token)

-- the const integers that are declared before a token where a part stands
abbrev pub known_before : Scope → ℕ → List Constant
known_before s token = filter (is_before s.file token) (constants_of s.names)

-- the number of a constant, by the const integers that are declared before a token
abbrev pub constant_at : Scope → ℕ → Expr → Option ℤ
constant_at s token e = constant (known_before s token) s e

-- an array has 1 to 1,000,000 elements
abbrev pub array_length : ℤ → Option ℕ
array_length (pos n) = if nat_le 1 n && nat_le n 1000000 then Some n else None
array_length (negsuc n) = None

-- how many elements an array has whose name is declared at a token, by its size
abbrev pub length_at : Scope → ℕ → Expr → Option ℕ
length_at s token size = option_and_then array_length (constant_at s token size)

-- how many elements a variable has: 0 where it is no array or its size is none
abbrev pub length_by : Scope → ℕ → Form → ℕ
length_by s token (Array k fixed size) = unwrap_or (length_at s token size) 0
length_by s token _ = 0

-- how many elements an array variable has
abbrev pub elements_of : Names → Variable → ℕ
elements_of names v = length_by (scope_of names v) v.token v.form
