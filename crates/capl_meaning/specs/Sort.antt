-- Of which sort an expression is (CAPL manual, operators and expressions, functions). The kinds of numbers
-- are this project's own. An expression that breaks a rule, or of which a needed part is bad, is bad.
use Rattle.std.specs.Prelude.{ℕ, ◌==◌, Bool, true, false, not, ◌&&◌, if◌then◌else◌, nat_le, List, [], ◌∷◌, length, Option, Some, None, pos}
use Rattle.std.specs.List.{list_all}
use Rattle.std.specs.Option.{option_map_or}
use Rattle.int_kinds.specs.declared.kinds.Kind.{Kind}
use Rattle.int_kinds.specs.declared.kinds.Kind.TheVariants as kind
use Rattle.int_kinds.specs.declared.operators.BinOp.{BinOp}
use Rattle.int_kinds.specs.declared.operators.BinOp.TheVariants as op
use Rattle.int_kinds.specs.declared.operators.UnOp.{UnOp}
use Rattle.int_kinds.specs.declared.operators.UnOp.TheVariants as prefix
use Rattle.int_kinds.specs.Kind.{join}
use Rattle.dbc_reader.specs.declared.signals.DbcSignal.{DbcSignal}
use Rattle.capl_tree.specs.declared.expr.Expr.{Expr, Row_of-Expr, end_of-Expr, more_of-Expr}
use Rattle.capl_tree.specs.declared.expr.Expr.TheVariants as expr
use Rattle.capl_tree.specs.declared.expr.Field.{Field}
use Rattle.capl_tree.specs.declared.expr.Field.TheVariants.{Named}
use Rattle.capl_tree.specs.Forms as tree
use Rattle.capl_meaning.specs.declared.builtin.Builtin.{Builtin}
use Rattle.capl_meaning.specs.declared.builtin.Builtin.TheVariants as builtin
use Rattle.capl_meaning.specs.declared.sort.Sort.{Sort}
use Rattle.capl_meaning.specs.declared.sort.Sort.TheVariants as sort
use Rattle.capl_meaning.specs.Variable.{Form, Number, Array, Message, Timer, Misfit, Variable}
use Rattle.capl_meaning.specs.Names.{Callee, Function, OfLanguage, OfProgram, Unknown, Scope, ThisForm, NoThis, ThisFrame, ThisKey, callee, direction, means}
use Rattle.capl_meaning.specs.Calls.{reaches}
use Rattle.capl_meaning.specs.Format.{first_text, format_codes, show_all}
use Rattle.capl_meaning.specs.Message.{NamedMember, IsField, IsSignal, first_kind, is_message_place, is_number_place, kind_of_field, kind_of_signal, member_named, message_in, signals_of}

-- a sort is a number
abbrev pub is_number : Sort → Bool
is_number (sort.Number k) = true
is_number _ = false

-- a sort is bad
abbrev pub is_bad : Sort → Bool
is_bad sort.Bad = true
is_bad _ = false

-- the kind of a number; an expression of another sort has none, and no accepted program asks for it
abbrev pub kind_in : Sort → Kind
kind_in (sort.Number k) = k
kind_in _ = kind.Long

-- a number in the source: the first of long, dword, int64, qword that holds it; with `x`, up to 0x1FFFFFFF, a
-- dword
abbrev pub sort_of_number : Option ℕ → Bool → Sort
sort_of_number None extended = sort.Bad
sort_of_number (Some n) false = sort.Number (first_kind (pos n) (pos n))
sort_of_number (Some n) true = if nat_le n 0x1FFFFFFF then sort.Number kind.Dword else sort.Bad

-- `this`
abbrev pub sort_of_this : ThisForm → Sort
sort_of_this NoThis = sort.Bad
sort_of_this (ThisFrame signals) = sort.Message
sort_of_this ThisKey = sort.Number kind.Char

-- a variable
abbrev pub sort_of_form : Form → Sort
sort_of_form (Number k fixed) = sort.Number k
sort_of_form (Array k fixed size) = sort.Array k
sort_of_form (Message type_) = sort.Message
sort_of_form (Timer unit) = sort.Timer
sort_of_form Misfit = sort.Bad

-- RX, rx, TX and tx are longs
abbrev pub sort_of_direction : Option ℕ → Sort
sort_of_direction None = sort.Bad
sort_of_direction (Some n) = sort.Number kind.Long

-- a name, by what it means
abbrev pub sort_of_name : List ℕ → Option Variable → Sort
sort_of_name name None = sort_of_direction (direction name)
sort_of_name name (Some v) = sort_of_form v.form

-- an element of an array
abbrev pub sort_of_element : Sort → Sort → Sort
sort_of_element (sort.Array k) (sort.Number j) = sort.Number k
sort_of_element _ _ = sort.Bad

-- a number where a number stands
abbrev pub number_from : Sort → Kind → Sort
number_from (sort.Number j) k = sort.Number k
number_from _ k = sort.Bad

-- the kind in which an operator works: the join of both kinds, and for a shift that of the left with itself
abbrev pub working_kind : BinOp → Kind → Kind → Kind
working_kind op.Shl a b = join a a
working_kind op.Shr a b = join a a
working_kind _ a b = join a b

-- the kind of what an operator gives: comparisons, `&&` and `||` give a long, all others the kind in which
-- they work
abbrev pub given_kind : BinOp → Kind → Kind → Kind
given_kind op.OrElse a b = kind.Long
given_kind op.AndAlso a b = kind.Long
given_kind op.Equal a b = kind.Long
given_kind op.NotEqual a b = kind.Long
given_kind op.Less a b = kind.Long
given_kind op.LessEqual a b = kind.Long
given_kind op.Greater a b = kind.Long
given_kind op.GreaterEqual a b = kind.Long
given_kind operator a b = working_kind operator a b

-- a binary operator
abbrev pub sort_of_binary : BinOp → Sort → Sort → Sort
sort_of_binary operator (sort.Number a) (sort.Number b) = sort.Number (given_kind operator a b)
sort_of_binary operator _ _ = sort.Bad

-- `++` and `--`: the kind of the place
abbrev pub sort_of_step : Bool → Sort → Sort
sort_of_step true place = place
sort_of_step false place = sort.Bad

-- a prefix operator: `!` gives a long; `-`, `+` and `~` the kind of the operand joined with itself
abbrev pub sort_of_prefix : UnOp → Bool → Sort → Sort
sort_of_prefix prefix.Up is_place operand = sort_of_step is_place operand
sort_of_prefix prefix.Down is_place operand = sort_of_step is_place operand
sort_of_prefix prefix.Not is_place operand = number_from operand kind.Long
sort_of_prefix _ is_place operand = number_from operand (join (kind_in operand) (kind_in operand))

-- `?:`: the join of both branches
abbrev pub sort_of_choice : Sort → Sort → Sort → Sort
sort_of_choice (sort.Number test) (sort.Number a) (sort.Number b) = sort.Number (join a b)
sort_of_choice _ _ _ = sort.Bad

-- an assignment: of a message to a message variable nothing; of a number the kind of the place
abbrev pub sort_of_assignment : Option BinOp → Bool → Bool → Sort → Sort → Sort
sort_of_assignment None is_place true sort.Message sort.Message = sort.Nothing
sort_of_assignment operator true is_message (sort.Number k) (sort.Number j) = sort.Number k
sort_of_assignment _ _ _ _ _ = sort.Bad

-- a member of a message
abbrev pub sort_of_member : NamedMember → Sort
sort_of_member (IsField f) = sort.Number (kind_of_field f)
sort_of_member (IsSignal layout) = sort.Number (kind_of_signal layout)
sort_of_member _ = sort.Bad

-- a function of the language that is given expressions of these sorts; of `write` also the text of the first
abbrev pub sort_of_builtin : Builtin → Option (List ℕ) → List Sort → Sort
sort_of_builtin builtin.Output text (sort.Message ∷ []) = sort.Nothing
sort_of_builtin builtin.Write (Some text) (sort.Text ∷ rest) =
    if option_map_or (λ found. show_all found rest) (format_codes text) false then sort.Nothing else sort.Bad
sort_of_builtin builtin.SetTimer text (sort.Timer ∷ sort.Number k ∷ []) = sort.Nothing
sort_of_builtin builtin.SetTimerCyclic text (sort.Timer ∷ sort.Number k ∷ []) = sort.Nothing
sort_of_builtin builtin.CancelTimer text (sort.Timer ∷ []) = sort.Nothing
sort_of_builtin builtin.Stop text [] = sort.Nothing
sort_of_builtin builtin.IsTimerActive text (sort.Timer ∷ []) = sort.Number kind.Long
sort_of_builtin builtin.TimeNow text [] = sort.Number kind.Dword
sort_of_builtin builtin.ElCount text (sort.Array k ∷ []) = sort.Number kind.Long
sort_of_builtin _ text _ = sort.Bad

-- what a function gives: a number of its kind, or nothing
abbrev pub sort_given : Option Kind → Sort
sort_given None = sort.Nothing
sort_given (Some k) = sort.Number k

-- a function is called from which, by calls, the procedure is reached
abbrev pub is_recursive : Scope → Function → Bool
is_recursive s f = reaches s.names f.number s.owner

-- a function of the program that is given expressions of these sorts
abbrev pub sort_of_function : Scope → Function → List Sort → Sort
sort_of_function s f sorts =
    if length sorts == length f.parameters && (list_all is_number sorts && not (is_recursive s f))
    then sort_given f.gives else sort.Bad

-- a call
abbrev pub sort_of_call : Scope → Callee → Option (List ℕ) → List Sort → Sort
sort_of_call s (OfLanguage b) text sorts = sort_of_builtin b text sorts
sort_of_call s (OfProgram f) text sorts = sort_of_function s f sorts
sort_of_call s Unknown text sorts = sort.Bad

abbrev mutual
  -- of which sort an expression is
  pub sort_of : Scope → Expr → Sort
  sort_of s (expr.Num value extended at) = sort_of_number value extended
  sort_of s (expr.Char value at) = sort.Number kind.Char
  sort_of s (expr.Str text at) = sort.Text
  sort_of s (expr.This at) = sort_of_this s.this
  sort_of s (expr.Name name at) = sort_of_name name (means s name at)
  sort_of s (tree.Paren inner at) = sort_of s inner
  sort_of s (expr.Call' name shape args at) =
      sort_of_call s (callee s.names name) (first_text args) (sorts_of s args)
  sort_of s (tree.Index base index at) = sort_of_element (sort_of s base) (sort_of s index)
  sort_of s (tree.Member base field at) =
      option_map_or (λ message. sort_of_part s (signals_of message) field) (message_in s base) sort.Bad
  sort_of s (tree.Cast kind inner at) = number_from (sort_of s inner) kind
  sort_of s (tree.Unary operator inner at) =
      sort_of_prefix operator (is_number_place s inner) (sort_of s inner)
  sort_of s (tree.Post up inner at) = sort_of_step (is_number_place s inner) (sort_of s inner)
  sort_of s (tree.Binary operator left right at) = sort_of_binary operator (sort_of s left) (sort_of s right)
  sort_of s (tree.Cond test one other at) =
      sort_of_choice (sort_of s test) (sort_of s one) (sort_of s other)
  sort_of s (tree.Assign operator left right at) =
      sort_of_assignment operator (is_number_place s left) (is_message_place s left)
      (sort_of s left) (sort_of s right)

  -- what stands behind the point of a message with these signals
  pub sort_of_part : Scope → Option (List DbcSignal) → Field → Sort
  sort_of_part s signals (Named name at) = sort_of_member (member_named signals name)
  sort_of_part s signals (tree.Bytes kind index at) = number_from (sort_of s index) kind

  -- of which sorts expressions in a row are
  pub sorts_of : Scope → {m : _} → Row_of-Expr m → List Sort
  sorts_of s end_of-Expr = []
  sorts_of s (more_of-Expr first rest) = sort_of s first ∷ sorts_of s rest
