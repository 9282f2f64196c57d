-- The typed tree of an expression: of each form one typed form. Numbers are converted by casts and by both
-- branches of `?:`; what is stored, in a parameter too, is wrapped by its cell. A bad expression becomes a
-- harmless tree, which gives what is said of it.
use Rattle.std.specs.Prelude.{ℕ, ◌+◌, ◌==◌, Bool, true, false, if◌then◌else◌, List, [], ◌∷◌, position, Option, Some, None, pos}
use Rattle.std.specs.Option.{option_and_then, option_map_or}
use Rattle.int_kinds.specs.declared.kinds.Kind.{Kind}
use Rattle.int_kinds.specs.declared.kinds.Kind.TheVariants.{Long}
use Rattle.int_kinds.specs.declared.operators.BinOp.{BinOp}
use Rattle.int_kinds.specs.declared.operators.BinOp.TheVariants as op
use Rattle.int_kinds.specs.declared.operators.UnOp.TheVariants as prefix
use Rattle.int_kinds.specs.Kind.{join}
use Rattle.capl_tree.specs.declared.expr.Expr.{Expr, Row_of-Expr, end_of-Expr, more_of-Expr, items-the_row-Expr}
use Rattle.capl_tree.specs.declared.expr.Expr.TheVariants as expr
use Rattle.capl_tree.specs.declared.expr.Field.{Field}
use Rattle.capl_tree.specs.declared.expr.Field.TheVariants.{Named}
use Rattle.capl_tree.specs.Forms as tree
use Rattle.typed_tree.specs.declared.expression.Place.{Place}
use Rattle.typed_tree.specs.declared.expression.Place.TheVariants.{Cell, Set, Signal}
use Rattle.typed_tree.specs.declared.expression.TExpr.{TExpr, Row_of-TExpr, end_of-TExpr, more_of-TExpr}
use Rattle.typed_tree.specs.declared.expression.TExpr.TheVariants.{Const, Load, Bump, Call', Active, Now}
use Rattle.typed_tree.specs.Forms.{Binary, Both, Bytes, Cond, Convert, Either, Elem, Store, Unary, Update}
use Rattle.capl_meaning.specs.declared.builtin.Builtin.{Builtin}
use Rattle.capl_meaning.specs.declared.builtin.Builtin.TheVariants as builtin
use Rattle.capl_meaning.specs.declared.field.MessageField.{MessageField}
use Rattle.capl_meaning.specs.declared.field.MessageField.TheVariants.{Id, Dlc, Rtr, Can, Dir, Time}
use Rattle.capl_meaning.specs.Variable.{Form, Number, Variable, identifier}
use Rattle.capl_meaning.specs.Names.{Callee, Names, OfLanguage, OfProgram, Unknown, Scope, ThisForm, ThisKey, callee, direction, means}
use Rattle.capl_meaning.specs.Message.{Held, NamedMember, IsField, IsSignal, array_in, is_number_place, member_named, message_in, signals_of}
use Rattle.capl_meaning.specs.Sort.{kind_in, sort_of}
use Rattle.capl_meaning.specs.Constant.{branches_kind, elements_of, operands_kind, prefix_kind}
use Rattle.capl_meaning.specs.Store.{variable_key, timer_number}
use Rattle.capl_meaning.specs.Expression.{timer_in}
use Rattle.capl_meaning.specs.Inside.Expression.{step_operator}
use Rattle.typed_laws.specs.Laid.{message_slot, slot}

-- ---- places

-- the place of a variable where it is a number
abbrev pub place_of_form : Names → Variable → Form → Option Place
place_of_form names v (Number k fixed) = Some (Cell (slot names (variable_key v)))
place_of_form names v _ = None

-- the place of a name, by what it means
abbrev pub place_of_name : Names → Option Variable → Option Place
place_of_name names None = None
place_of_name names (Some v) = place_of_form names v v.form

-- the place of an element of an array, if there is one
abbrev pub place_of_element : Names → Option Variable → TExpr → Option Place
place_of_element names None index = None
place_of_element names (Some v) index = Some (Elem (slot names (variable_key v)) (elements_of names v) index)

-- the place of a field of the message at a cell: those that are stored by a write rule by their numbers,
-- direction and time as their cells
abbrev pub place_of_field : ℕ → MessageField → Place
place_of_field at Id = Set at 0
place_of_field at Dlc = Set at 1
place_of_field at Rtr = Set at 2
place_of_field at Can = Set at 3
place_of_field at Dir = Cell (at + 4)
place_of_field at Time = Cell (at + 5)

-- the place of a member of the message at a cell
abbrev pub place_of_member : ℕ → NamedMember → Option Place
place_of_member at (IsField f) = Some (place_of_field at f)
place_of_member at (IsSignal layout) = Some (Signal at layout)
place_of_member at _ = None

-- a place that can be assigned to
abbrev pub assigned : Bool → Option Place → Option Place
assigned is_place place = if is_place then place else None

-- ---- forms

-- the number at a place, and 0 where there is none
abbrev pub loaded : Option Place → TExpr
loaded None = Const (pos 0)
loaded (Some place) = Load place

-- a name: the number of a variable; RX and TX are 0 and 1 where no variable has the name
abbrev pub of_name : Names → List ℕ → Option Variable → TExpr
of_name names name None = Const (option_map_or pos (direction name) (pos 0))
of_name names name (Some v) = loaded (place_of_form names v v.form)

-- `this`: the key of a key procedure, which is in cell 14
abbrev pub of_this : ThisForm → TExpr
of_this ThisKey = Load (Cell 14)
of_this _ = Const (pos 0)

-- an assignment; where there is no place it gives its right side
abbrev pub storing : Option Place → TExpr → TExpr
storing None value = value
storing (Some place) value = Store place value

-- an assignment with an operator, which works in a kind; where there is no place it works on 0
abbrev pub updating : BinOp → Kind → Option Place → TExpr → TExpr
updating operator k None value = Binary operator k (Const (pos 0)) value
updating operator k (Some place) value = Update operator k k place value

-- `++` or `--` before a place of a kind, or behind it; where there is none 1 is added to 0 or taken from it
abbrev pub stepping : Kind → Bool → Bool → Option Place → TExpr
stepping k up false None = Binary (step_operator up) (join k Long) (Const (pos 0)) (Const (pos 1))
stepping k up true None = Const (pos 0)
stepping k up is_behind (Some place) = Bump place (join k Long) up is_behind

-- a binary operator, which works in a kind
abbrev pub operation : BinOp → Kind → TExpr → TExpr → TExpr
operation op.AndAlso k left right = Both left right
operation op.OrElse k left right = Either left right
operation operator k left right = Binary operator k left right

-- ---- calls

-- the number of a function in an order, in which functions stand by their numbers in the source
abbrev pub place_in : List ℕ → ℕ → Option ℕ
place_in order number = position (λ other. other == number) order

-- a function of the language that gives a number
abbrev pub of_builtin : Scope → Builtin → List Expr → TExpr
of_builtin s builtin.IsTimerActive (timer ∷ []) =
    option_map_or (λ v. Active (timer_number s.names v)) (timer_in s timer) (Const (pos 0))
of_builtin s builtin.TimeNow arguments = Now
of_builtin s builtin.ElCount (array ∷ []) =
    option_map_or (λ v. Const (pos (elements_of s.names v))) (array_in s array) (Const (pos 0))
of_builtin s _ arguments = Const (pos 0)

-- a call, by what is called; one of the program's functions with what it is by its number in the order
abbrev pub of_call : Scope → List ℕ → Callee → List Expr → (ℕ → TExpr) → TExpr
of_call s order (OfLanguage b) arguments called = of_builtin s b arguments
of_call s order (OfProgram f) arguments called =
    option_map_or called (place_in order f.number) (Const (pos 0))
of_call s order Unknown arguments called = Const (pos 0)

-- ---- expressions

abbrev mutual
  -- the typed tree of an expression, where the functions stand in an order
  pub expression_of : Scope → List ℕ → Expr → TExpr
  expression_of s order (expr.Num value extended at) =
      Const (option_map_or (λ n. pos (identifier n extended)) value (pos 0))
  expression_of s order (expr.Char value at) = Const (pos value)
  expression_of s order (expr.Str text at) = Const (pos 0)
  expression_of s order (expr.This at) = of_this s.this
  expression_of s order (expr.Name name at) = of_name s.names name (means s name at)
  expression_of s order (tree.Paren inner at) = expression_of s order inner
  expression_of s order (expr.Call' name shape args at) =
      of_call s order (callee s.names name) (items-the_row-Expr _ args)
      (λ f. Call' f shape (row_of s order args))
  expression_of s order (tree.Index base index at) =
      loaded (place_of_element s.names (array_in s base) (expression_of s order index))
  expression_of s order (tree.Member base field at) =
      loaded (option_and_then (place_of_part s order field) (message_in s base))
  expression_of s order (tree.Cast kind inner at) = Convert kind (expression_of s order inner)
  expression_of s order (tree.Unary prefix.Up inner at) =
      stepping (kind_in (sort_of s inner)) true false
      (assigned (is_number_place s inner) (place_of s order inner))
  expression_of s order (tree.Unary prefix.Down inner at) =
      stepping (kind_in (sort_of s inner)) false false
      (assigned (is_number_place s inner) (place_of s order inner))
  expression_of s order (tree.Unary operator inner at) =
      Unary operator (prefix_kind s inner) (expression_of s order inner)
  expression_of s order (tree.Post up inner at) =
      stepping (kind_in (sort_of s inner)) up true
      (assigned (is_number_place s inner) (place_of s order inner))
  expression_of s order (tree.Binary operator left right at) =
      operation operator (operands_kind s operator left right)
      (expression_of s order left) (expression_of s order right)
  expression_of s order (tree.Cond test one other at) =
      Cond (expression_of s order test)
      (Convert (branches_kind s one other) (expression_of s order one))
      (Convert (branches_kind s one other) (expression_of s order other))
  expression_of s order (tree.Assign None left right at) =
      storing (assigned (is_number_place s left) (place_of s order left)) (expression_of s order right)
  expression_of s order (tree.Assign (Some operator) left right at) =
      updating operator (operands_kind s operator left right)
      (assigned (is_number_place s left) (place_of s order left)) (expression_of s order right)

  -- the typed place that an expression is, if it is one
  pub place_of : Scope → List ℕ → Expr → Option Place
  place_of s order (tree.Paren inner at) = place_of s order inner
  place_of s order (expr.Name name at) = place_of_name s.names (means s name at)
  place_of s order (tree.Index base index at) =
      place_of_element s.names (array_in s base) (expression_of s order index)
  place_of s order (tree.Member base field at) =
      option_and_then (place_of_part s order field) (message_in s base)
  place_of s order _ = None

  -- the place of a part of a message
  pub place_of_part : Scope → List ℕ → Field → Held → Option Place
  place_of_part s order (Named name at) held =
      place_of_member (message_slot s.names held) (member_named (signals_of held) name)
  place_of_part s order (tree.Bytes kind index at) held =
      Some (Bytes (message_slot s.names held) kind (expression_of s order index))

  -- the typed trees of expressions in a row
  pub row_of : Scope → List ℕ → {m : _} → Row_of-Expr m → Row_of-TExpr m
  row_of s order end_of-Expr = end_of-TExpr
  row_of s order (more_of-Expr first rest) = more_of-TExpr (expression_of s order first) (row_of s order rest)
