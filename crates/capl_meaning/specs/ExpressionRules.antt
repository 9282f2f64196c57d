-- The rules that an expression and its parts break (CAPL manual, operators, functions, message, timers).
--
-- A bad operand breaks no further rule. The place of an offence is the first token of the part that it is of.
use Rattle.std.specs.Prelude.{ℕ, ◌==◌, Bool, true, false, not, ◌&&◌, ◌||◌, if◌then◌else◌, List, [], ◌∷◌, ◌++◌, flat_map, is_none, length, Option, Some, None}
use Rattle.std.specs.List.{zip}
use Rattle.std.specs.Option.{option_map_or}
use Rattle.texts.specs.Rule.{source_rule}
use Rattle.int_kinds.specs.declared.operators.BinOp.{BinOp}
use Rattle.int_kinds.specs.declared.operators.UnOp.{UnOp}
use Rattle.int_kinds.specs.declared.operators.UnOp.TheVariants as prefix
use Rattle.write_format.specs.declared.code.Code.{Code}
use Rattle.capl_tree.specs.declared.expr.Expr.{Expr, Row_of-Expr, end_of-Expr, more_of-Expr, items-the_row-Expr}
use Rattle.capl_tree.specs.declared.expr.Expr.TheVariants as expr
use Rattle.capl_tree.specs.declared.expr.Field.{Field}
use Rattle.capl_tree.specs.declared.expr.Field.TheVariants.{Named}
use Rattle.capl_tree.specs.Forms as tree
use Rattle.capl_tree.specs.Place.{expression_place}
use Rattle.capl_meaning.specs.declared.builtin.Builtin.{Builtin}
use Rattle.capl_meaning.specs.declared.builtin.Builtin.TheVariants as builtin
use Rattle.capl_meaning.specs.declared.offence.Offence.{Offence}
use Rattle.capl_meaning.specs.declared.sort.Sort.{Sort}
use Rattle.capl_meaning.specs.declared.sort.Sort.TheVariants as sort
use Rattle.capl_meaning.specs.Variable.{Variable}
use Rattle.capl_meaning.specs.Names.{Callee, Function, OfLanguage, OfProgram, Unknown, Scope, ThisForm, NoThis, callee, direction, means}
use Rattle.capl_meaning.specs.Format.{format_codes, shows, quoted_text}
use Rattle.capl_meaning.specs.Message.{Held, NamedMember, IsField, IsSignal, IsUnusable, IsUnknown, is_message_place, is_number_place, member_named, message_in, signals_of}
use Rattle.capl_meaning.specs.Sort.{is_bad, is_number, is_recursive, sort_of, sort_of_number}

-- the rule of group E with this number is broken at a token where a part stands
abbrev pub offence : Scope → ℕ → ℕ → Offence
offence s token number = record { file = s.file; token = token; rule = source_rule number }

-- a rule, by its number, that is broken at a token where something holds
abbrev pub broken_where : Bool → Scope → ℕ → ℕ → List Offence
broken_where holds s token number = if holds then offence s token number ∷ [] else []

-- E13: an integer is needed and the expression is something else
abbrev pub integer_needed : Scope → Expr → List Offence
integer_needed s e =
    broken_where (not (is_number (sort_of s e)) && not (is_bad (sort_of s e))) s (expression_place e) 13

-- E18: a number is above 2^64 - 1, or with `x` above 0x1FFFFFFF
abbrev pub number_rule : Scope → ℕ → Option ℕ → Bool → List Offence
number_rule s at value extended = broken_where (is_bad (sort_of_number value extended)) s at 18

-- E15: `this` outside message and key procedures
abbrev pub this_rule : Scope → ℕ → ThisForm → List Offence
this_rule s at NoThis = offence s at 15 ∷ []
this_rule s at _ = []

-- E09: a name means no variable, and is not RX or TX
abbrev pub name_rule : Scope → ℕ → List ℕ → Option Variable → List Offence
name_rule s at name variable = broken_where (is_none variable && is_none (direction name)) s at 9

-- a sort is an array
abbrev pub is_array : Sort → Bool
is_array (sort.Array k) = true
is_array _ = false

-- a sort is a message
abbrev pub is_message_sort : Sort → Bool
is_message_sort sort.Message = true
is_message_sort _ = false

-- a sort is a timer
abbrev pub is_timer_sort : Sort → Bool
is_timer_sort sort.Timer = true
is_timer_sort _ = false

-- E28: an index of what is no array
abbrev pub index_rule : Scope → ℕ → Sort → List Offence
index_rule s at base = broken_where (not (is_array base) && not (is_bad base)) s at 28

-- E23, E11 and E28: a signal cannot be used; a member of a message declared by name is neither field nor
-- signal; an unknown member of another message
abbrev pub name_of_member_rule : Scope → ℕ → ℕ → NamedMember → List Offence
name_of_member_rule s at name_at (IsField f) = []
name_of_member_rule s at name_at (IsSignal layout) = []
name_of_member_rule s at name_at IsUnusable = offence s name_at 23 ∷ []
name_of_member_rule s at name_at (IsUnknown true) = offence s name_at 11 ∷ []
name_of_member_rule s at name_at (IsUnknown false) = offence s at 28 ∷ []

-- E13: the index of payload bytes is no integer
abbrev pub index_needed : Scope → Field → List Offence
index_needed s (Named name name_at) = []
index_needed s (tree.Bytes kind index kind_at) = integer_needed s index

-- the rules of what stands behind the point of a message
abbrev pub part_rules : Scope → ℕ → Field → Held → List Offence
part_rules s at (Named name name_at) message =
    name_of_member_rule s at name_at (member_named (signals_of message) name)
part_rules s at (tree.Bytes kind index kind_at) message = []

-- E28: a member of what is no message or frame; else the rules of the member
abbrev pub member_rules : Scope → ℕ → Expr → Field → List Offence
member_rules s at base field =
    option_map_or (part_rules s at field) (message_in s base)
    (broken_where (not (is_bad (sort_of s base))) s at 28)

-- E14: the operand of `++` or `--` is no assignable place of a number
abbrev pub step_rule : Scope → Expr → List Offence
step_rule s e =
    broken_where (not (is_bad (sort_of s e)) && not (is_number_place s e)) s (expression_place e) 14

-- the rules of a prefix operator: `++` and `--` need a place, all others an integer
abbrev pub prefix_rule : Scope → UnOp → Expr → List Offence
prefix_rule s prefix.Up e = step_rule s e
prefix_rule s prefix.Down e = step_rule s e
prefix_rule s _ e = integer_needed s e

-- an expression is an assignable place: of a number, or for `=` alone of a message
abbrev pub is_place_for : Option BinOp → Scope → Expr → Bool
is_place_for None s e = is_number_place s e || is_message_place s e
is_place_for (Some operator) s e = is_number_place s e

-- E14: the left of an assignment is no assignable place
abbrev pub left_rule : Scope → Option BinOp → Expr → List Offence
left_rule s operator left =
    broken_where (not (is_bad (sort_of s left)) && not (is_place_for operator s left))
    s (expression_place left) 14

-- E28: an assignment with a message on one side only
abbrev pub sides_rule : Scope → ℕ → Sort → Sort → List Offence
sides_rule s at sort.Message right = broken_where (not (is_message_sort right) && not (is_bad right)) s at 28
sides_rule s at left sort.Message = broken_where (not (is_bad left)) s at 28
sides_rule s at _ _ = []

-- E13: the right of an assignment is an operand, where no side is a message
abbrev pub right_rule : Scope → Expr → Expr → List Offence
right_rule s left right =
    if is_message_sort (sort_of s left) || is_message_sort (sort_of s right)
    then []
    else integer_needed s right

-- E16: an argument is not the timer, message or array that is needed
abbrev pub argument_rule : Scope → ℕ → (Sort → Bool) → Expr → List Offence
argument_rule s at is_needed e =
    broken_where (not (is_needed (sort_of s e)) && not (is_bad (sort_of s e))) s at 16

-- E17: an argument of `write` is not what its code shows
abbrev pub shown_rule : Scope → Code → Expr → List Offence
shown_rule s code e =
    broken_where (not (shows code (sort_of s e)) && not (is_bad (sort_of s e))) s (expression_place e) 17

-- E17: a code of the format is of no form, or the number of arguments differs; else the rules of the
-- arguments
abbrev pub codes_rules : Scope → ℕ → Option (List Code) → List Expr → List Offence
codes_rules s at None arguments = offence s at 17 ∷ []
codes_rules s at (Some found) arguments =
    if length found == length arguments
    then flat_map (λ pair. shown_rule s pair.0 pair.1) (zip found arguments)
    else offence s at 17 ∷ []

-- E17: the first argument of `write` is no text; else the rules of the format
abbrev pub format_rules : Scope → Expr → Option (List ℕ) → List Expr → List Offence
format_rules s format None arguments =
    broken_where (not (is_bad (sort_of s format))) s (expression_place format) 17
format_rules s format (Some text) arguments =
    codes_rules s (expression_place format) (format_codes text) arguments

-- the rules of a call of a function of the language
abbrev pub builtin_rules : Scope → ℕ → Builtin → List Expr → List Offence
builtin_rules s at builtin.Output (message ∷ []) = argument_rule s at is_message_sort message
builtin_rules s at builtin.Write (format ∷ arguments) = format_rules s format (quoted_text format) arguments
builtin_rules s at builtin.SetTimer (timer ∷ duration ∷ []) =
    argument_rule s at is_timer_sort timer ++ integer_needed s duration
builtin_rules s at builtin.SetTimerCyclic (timer ∷ duration ∷ []) =
    argument_rule s at is_timer_sort timer ++ integer_needed s duration
builtin_rules s at builtin.CancelTimer (timer ∷ []) = argument_rule s at is_timer_sort timer
builtin_rules s at builtin.Stop [] = []
builtin_rules s at builtin.IsTimerActive (timer ∷ []) = argument_rule s at is_timer_sort timer
builtin_rules s at builtin.TimeNow [] = []
builtin_rules s at builtin.ElCount (array ∷ []) = argument_rule s at is_array array
builtin_rules s at _ _ = offence s at 16 ∷ []

-- the rules of a call of a function of the program: E16, a wrong number of arguments; E13, an argument; E26
abbrev pub function_rules : Scope → ℕ → Function → List Expr → List Offence
function_rules s at f arguments =
    broken_where (not (length arguments == length f.parameters)) s at 16
    ++ (flat_map (integer_needed s) arguments ++ broken_where (is_recursive s f) s at 26)

-- the rules of a call: E09, a called name is no function; else those of its function
abbrev pub call_rules : Scope → ℕ → Callee → List Expr → List Offence
call_rules s at (OfLanguage b) arguments = builtin_rules s at b arguments
call_rules s at (OfProgram f) arguments = function_rules s at f arguments
call_rules s at Unknown arguments = offence s at 9 ∷ []

abbrev mutual
  -- what an expression and its parts break
  pub offences : Scope → Expr → List Offence
  offences s (expr.Num value extended at) = number_rule s at value extended
  offences s (expr.Char value at) = []
  offences s (expr.Str text at) = []
  offences s (expr.This at) = this_rule s at s.this
  offences s (expr.Name name at) = name_rule s at name (means s name at)
  offences s (tree.Paren inner at) = offences s inner
  offences s (expr.Call' name shape args at) =
      offences_of_row s args ++ call_rules s at (callee s.names name) (items-the_row-Expr _ args)
  offences s (tree.Index base index at) =
      offences s base ++ (offences s index
      ++ (index_rule s at (sort_of s base) ++ integer_needed s index))
  offences s (tree.Member base field at) =
      offences s base ++ (offences_of_field s field
      ++ (index_needed s field ++ member_rules s at base field))
  offences s (tree.Cast kind inner at) = offences s inner ++ integer_needed s inner
  offences s (tree.Unary operator inner at) = offences s inner ++ prefix_rule s operator inner
  offences s (tree.Post up inner at) = offences s inner ++ step_rule s inner
  offences s (tree.Binary operator left right at) =
      offences s left ++ (offences s right ++ (integer_needed s left ++ integer_needed s right))
  offences s (tree.Cond test one other at) =
      offences s test ++ (offences s one ++ (offences s other
      ++ (integer_needed s test ++ (integer_needed s one ++ integer_needed s other))))
  offences s (tree.Assign operator left right at) =
      offences s left ++ (offences s right ++ (left_rule s operator left
      ++ (sides_rule s at (sort_of s left) (sort_of s right) ++ right_rule s left right)))

  -- what the index of a field breaks
  pub offences_of_field : Scope → Field → List Offence
  offences_of_field s (Named name at) = []
  offences_of_field s (tree.Bytes kind index at) = offences s index

  -- what expressions in a row break
  pub offences_of_row : Scope → {m : _} → Row_of-Expr m → List Offence
  offences_of_row s end_of-Expr = []
  offences_of_row s (more_of-Expr first rest) = offences s first ++ offences_of_row s rest

-- an expression of which an integer is needed
abbrev pub integer_offences : Scope → Expr → List Offence
integer_offences s e = offences s e ++ integer_needed s e
