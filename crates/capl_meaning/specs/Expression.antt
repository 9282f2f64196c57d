-- What the expressions of a program mean (CAPL manual, operators and expressions, message, functions):
-- operands from left to right. What is said of an expression that breaks a rule is of no use, and harmless.
use Rattle.std.specs.Prelude.{ℕ, ◌-◌, ◌/◌, Bool, true, false, if◌then◌else◌, nat_lt, List, [], ◌∷◌, slice_index_or, Option, Some, None, ℤ, pos, negsuc}
use Rattle.std.specs.Bool.{then_some}
use Rattle.std.specs.Option.{option_and_then, option_map_or}
use Rattle.int_kinds.specs.declared.kinds.Kind.{Kind}
use Rattle.int_kinds.specs.declared.kinds.Kind.TheVariants.{Dword, Long}
use Rattle.int_kinds.specs.declared.operators.BinOp.{BinOp}
use Rattle.int_kinds.specs.declared.operators.BinOp.TheVariants as op
use Rattle.int_kinds.specs.declared.operators.UnOp.TheVariants as prefix
use Rattle.int_kinds.specs.Kind.{join, wrap}
use Rattle.int_kinds.specs.Arithmetic.{truth, value}
use Rattle.signal_codec.specs.declared.layout.Layout.{Layout}
use Rattle.run_effects.specs.declared.outcome.Outcome.TheVariants.{Trapped}
use Rattle.run_effects.specs.declared.outcome.TrapKind.TheVariants.{Index, ZeroDivisor}
use Rattle.message_cells.specs.Message.{size}
use Rattle.control_flow.specs.World.{World, Run, Gives, Fails, and_then, run_map}
use Rattle.control_flow.specs.Control.{Calls, Computes, deciding}
use Rattle.capl_tree.specs.declared.procedure.Param.{Param}
use Rattle.capl_tree.specs.declared.expr.Expr.{Expr, Row_of-Expr, end_of-Expr, more_of-Expr, items-the_row-Expr}
use Rattle.capl_tree.specs.declared.expr.Expr.TheVariants as expr
use Rattle.capl_tree.specs.declared.expr.Field.{Field}
use Rattle.capl_tree.specs.declared.expr.Field.TheVariants.{Named}
use Rattle.capl_tree.specs.Forms as tree
use Rattle.capl_meaning.specs.declared.builtin.Builtin.{Builtin}
use Rattle.capl_meaning.specs.declared.builtin.Builtin.TheVariants as builtin
use Rattle.capl_meaning.specs.declared.field.MessageField.{MessageField}
use Rattle.capl_meaning.specs.Variable.{Form, Number, Array, Variable, identifier, is_timer}
use Rattle.capl_meaning.specs.Names.{Callee, Function, OfLanguage, OfProgram, Unknown, Scope, ThisForm, ThisKey, callee, direction, means}
use Rattle.capl_meaning.specs.Message.{Held, HeldFrame, HeldVariable, NamedMember, IsField, IsSignal, array_in, is_number_place, member_named, message_in, signals_of}
use Rattle.capl_meaning.specs.Sort.{kind_in, sort_of}
use Rattle.capl_meaning.specs.Operator.{prefix_value, truth_of}
use Rattle.capl_meaning.specs.Constant.{branches_kind, elements_of, operands_kind, prefix_kind}
use Rattle.capl_meaning.specs.Store.{MessageRecord, Store, This, variable_key, read_bytes, read_field, read_signal, timer_number, with_bytes, with_element, with_field, with_message, with_number, with_signal}

-- the memory of a program: what its variables hold, and which timers are active
pub record Memory : Type 0 where
  pub store : Store
  pub active : List Bool

-- the world with another store
abbrev pub with_store : Store → World Memory → World Memory
with_store store w = record w { memory = record w.memory { store = store } }

-- where and when a part of a program runs: where it stands, what `this` is, after the measurement has ended
-- or not, and at which moment in microseconds
pub record Setting : Type 0 where
  pub scope : Scope
  pub this : This
  pub closed : Bool
  pub moment : ℕ

-- ---- places

-- a place whose index was evaluated: none; a number variable; an element of an array variable; a field,
-- payload bytes or a signal of a message; each with its kind where it has one
pub data Spot : Type 0 where
  Nowhere : Spot
  InNumber : Kind → Variable → Spot
  InElement : Kind → Variable → ℕ → Spot
  InField : Held → MessageField → Spot
  InBytes : Held → Kind → ℕ → Spot
  InSignal : Held → Layout → Spot

-- the message that is held
abbrev pub held_message : This → Store → Held → MessageRecord
held_message this store (HeldFrame signals) = this.frame
held_message this store (HeldVariable v signals) = store.message (variable_key v)

-- the store once a held message is changed; a frame does not change
abbrev pub with_held : (MessageRecord → MessageRecord) → Held → Store → Store
with_held change (HeldFrame signals) store = store
with_held change (HeldVariable v signals) store =
    with_message (variable_key v) (change (store.message (variable_key v))) store

-- the number at a spot
abbrev pub read : This → Spot → Store → ℤ
read this Nowhere store = pos 0
read this (InNumber k v) store = store.number (variable_key v)
read this (InElement k v i) store = store.element (variable_key v) i
read this (InField held f) store = read_field f (held_message this store held)
read this (InBytes held k i) store = read_bytes k i (held_message this store held)
read this (InSignal held layout) store = read_signal layout (held_message this store held)

-- the store once a number is stored at a spot: wrapped to its kind, or by the write rule of its field
abbrev pub write : Spot → ℤ → Store → Store
write Nowhere n store = store
write (InNumber k v) n store = with_number (variable_key v) (wrap k n) store
write (InElement k v i) n store = with_element (variable_key v) i (wrap k n) store
write (InField held f) n store = with_held (with_field f n) held store
write (InBytes held k i) n store = with_held (with_bytes k i n) held store
write (InSignal held layout) n store = with_held (with_signal layout n) held store

-- the number at a spot
abbrev pub reads : Setting → Spot → World Memory → Run Memory ℤ
reads s spot w = Gives (read s.this spot w.memory.store) w

-- stores a number at a spot, and gives what a read of it then gives; where there is no place it gives the
-- number
abbrev pub stores : Setting → Spot → ℤ → World Memory → Run Memory ℤ
stores s Nowhere n w = Gives n w
stores s spot n w =
    let store : Store = write spot n w.memory.store in Gives (read s.this spot store) (with_store store w)

-- a number as an index of so many things, numbered from 0 on; it traps where it is none
abbrev pub indexing : {A : Type 0} → ℕ → ℤ → World Memory → (ℕ → A) → Run Memory A
indexing len (pos i) w spot = if nat_lt i len then Gives (spot i) w else Fails (Trapped Index) w
indexing len (negsuc i) w spot = Fails (Trapped Index) w

-- the spot of a number variable
abbrev pub spot_of_form : Variable → Form → Spot
spot_of_form v (Number k fixed) = InNumber k v
spot_of_form v _ = Nowhere

-- the kind of an array's elements
abbrev pub kind_of_elements : Form → Kind
kind_of_elements (Array k fixed size) = k
kind_of_elements _ = Long

-- the spot of an element: the index is evaluated, and traps where the array has no such element; of what is
-- no array nothing is evaluated
abbrev pub element_spot : Setting → Option Variable → Computes Memory → World Memory → Run Memory Spot
element_spot s None index w = Gives Nowhere w
element_spot s (Some v) index w =
    and_then (index w) (λ i w.
    indexing (elements_of s.scope.names v) i w (InElement (kind_of_elements v.form) v))

-- the spot of a member of a message
abbrev pub spot_of_member : Held → NamedMember → Spot
spot_of_member held (IsField f) = InField held f
spot_of_member held (IsSignal layout) = InSignal held layout
spot_of_member held _ = Nowhere

-- the spot of a part of what may be a message; of what is none nothing is evaluated
abbrev pub part_spot : Option Held → (Held → World Memory → Run Memory Spot) → World Memory → Run Memory Spot
part_spot None spot w = Gives Nowhere w
part_spot (Some held) spot w = spot held w

-- the spot of an expression where it is an assignable place; where it is none nothing is evaluated
abbrev pub place_spot :
    Setting → Expr → (World Memory → Run Memory Spot) → World Memory → Run Memory Spot
place_spot s e spot w = if is_number_place s.scope e then spot w else Gives Nowhere w

-- ---- operators

-- the value of a binary operator in a kind, with the trap of a zero divisor
abbrev pub operates : BinOp → Kind → ℤ → ℤ → Computes Memory
operates operator k a b w =
    option_map_or (λ n. Gives n w) (value operator k a b) (Fails (Trapped ZeroDivisor) w)

-- `++x` is `x += 1`, and `--x` is `x -= 1`; behind the operand they give the old value
abbrev pub step_by_one : Setting → BinOp → Bool → Kind → Spot → World Memory → Run Memory ℤ
step_by_one s operator is_behind k spot w =
    and_then (reads s spot w) (λ old w. and_then (operates operator (join k Long) old (pos 1) w) (λ new w.
    run_map (λ now. if is_behind then old else now) (stores s spot new w)))

-- the value of `this`: the key of a key procedure
abbrev pub value_of_this : This → ThisForm → ℤ
value_of_this this ThisKey = this.key
value_of_this this _ = pos 0

-- ---- calls

-- the timer variable that an expression names, if it names one
abbrev pub timer_in : Scope → Expr → Option Variable
timer_in s (tree.Paren inner at) = timer_in s inner
timer_in s (expr.Name name at) = option_and_then (λ v. then_some (is_timer v.form) v) (means s name at)
timer_in s _ = None

-- the number that a function of the language gives: `isTimerActive` 1 or 0; `timeNow` the moment in units of
-- ten microseconds, as a dword; `elCount` the number of elements; all others none
abbrev pub builtin_value : Setting → World Memory → Builtin → List Expr → ℤ
builtin_value s w builtin.IsTimerActive (timer ∷ []) =
    truth (option_map_or (λ v. slice_index_or w.memory.active (timer_number s.scope.names v) false)
    (timer_in s.scope timer) false)
builtin_value s w builtin.TimeNow arguments = wrap Dword (pos (s.moment / 10))
builtin_value s w builtin.ElCount (array ∷ []) =
    option_map_or (λ v. pos (elements_of s.scope.names v)) (array_in s.scope array) (pos 0)
builtin_value s w _ arguments = pos 0

-- the store once the parameters of a function hold arguments, each wrapped to its kind
abbrev pub with_arguments : ℕ → List Param → List ℤ → Store → Store
with_arguments number (p ∷ ps) (n ∷ ns) store =
    with_number (record { owner = number; name = p.name }) (wrap p.kind n) (with_arguments number ps ns store)
with_arguments number ps ns store = store

-- stores arguments in the parameters of a function, and calls it
abbrev pub calling : Calls Memory → Function → List ℤ → Computes Memory
calling call f ns w = call f.number (with_store (with_arguments f.number f.parameters ns w.memory.store) w)

-- the value of a call: of a function of the program its arguments are evaluated first
abbrev pub call_value :
    Setting → Calls Memory → Callee → List Expr → (World Memory → Run Memory (List ℤ)) → Computes Memory
call_value s call (OfLanguage b) arguments numbers w = Gives (builtin_value s w b arguments) w
call_value s call (OfProgram f) arguments numbers w = and_then (numbers w) (calling call f)
call_value s call Unknown arguments numbers w = Gives (pos 0) w

-- ---- expressions

abbrev mutual
  -- the number that an expression gives
  pub value_of : Setting → Calls Memory → Expr → Computes Memory
  value_of s call (expr.Num value extended at) w =
      Gives (option_map_or (λ n. pos (identifier n extended)) value (pos 0)) w
  value_of s call (expr.Char value at) w = Gives (pos value) w
  value_of s call (expr.Str text at) w = Gives (pos 0) w
  value_of s call (expr.This at) w = Gives (value_of_this s.this s.scope.this) w
  value_of s call (expr.Name name at) w =
      option_map_or (λ v. reads s (spot_of_form v v.form) w) (means s.scope name at)
      (Gives (option_map_or pos (direction name) (pos 0)) w)
  value_of s call (tree.Paren inner at) w = value_of s call inner w
  value_of s call (expr.Call' name shape args at) w =
      call_value s call (callee s.scope.names name) (items-the_row-Expr _ args) (values_of s call args) w
  value_of s call (tree.Index base index at) w =
      and_then (element_spot s (array_in s.scope base) (value_of s call index) w) (reads s)
  value_of s call (tree.Member base field at) w =
      and_then (part_spot (message_in s.scope base) (field_spot s call field) w) (reads s)
  value_of s call (tree.Cast kind inner at) w = run_map (wrap kind) (value_of s call inner w)
  value_of s call (tree.Unary prefix.Up inner at) w =
      and_then (place_spot s inner (spot_of s call inner) w)
      (step_by_one s op.Add false (kind_in (sort_of s.scope inner)))
  value_of s call (tree.Unary prefix.Down inner at) w =
      and_then (place_spot s inner (spot_of s call inner) w)
      (step_by_one s op.Sub false (kind_in (sort_of s.scope inner)))
  value_of s call (tree.Unary operator inner at) w =
      run_map (prefix_value operator (prefix_kind s.scope inner)) (value_of s call inner w)
  value_of s call (tree.Post up inner at) w =
      and_then (place_spot s inner (spot_of s call inner) w)
      (step_by_one s (if up then op.Add else op.Sub) true (kind_in (sort_of s.scope inner)))
  value_of s call (tree.Binary op.AndAlso left right at) w =
      deciding (value_of s call left w) (λ w. run_map truth_of (value_of s call right w)) (Gives (pos 0))
  value_of s call (tree.Binary op.OrElse left right at) w =
      deciding (value_of s call left w) (Gives (pos 1)) (λ w. run_map truth_of (value_of s call right w))
  value_of s call (tree.Binary operator left right at) w =
      and_then (value_of s call left w) (λ m w. and_then (value_of s call right w) (λ n w.
      operates operator (operands_kind s.scope operator left right) m n w))
  value_of s call (tree.Cond test one other at) w =
      deciding (value_of s call test w)
      (λ w. run_map (wrap (branches_kind s.scope one other)) (value_of s call one w))
      (λ w. run_map (wrap (branches_kind s.scope one other)) (value_of s call other w))
  value_of s call (tree.Assign None left right at) w =
      and_then (place_spot s left (spot_of s call left) w) (λ spot w.
      and_then (value_of s call right w) (stores s spot))
  value_of s call (tree.Assign (Some operator) left right at) w =
      and_then (place_spot s left (spot_of s call left) w) (λ spot w. and_then (reads s spot w) (λ old w.
      and_then (value_of s call right w) (λ n w.
      and_then (operates operator (operands_kind s.scope operator left right) old n w) (stores s spot))))

  -- the spot of an expression that is a place, with the check of its index
  pub spot_of : Setting → Calls Memory → Expr → World Memory → Run Memory Spot
  spot_of s call (tree.Paren inner at) w = spot_of s call inner w
  spot_of s call (expr.Name name at) w =
      Gives (option_map_or (λ v. spot_of_form v v.form) (means s.scope name at) Nowhere) w
  spot_of s call (tree.Index base index at) w =
      element_spot s (array_in s.scope base) (value_of s call index) w
  spot_of s call (tree.Member base field at) w =
      part_spot (message_in s.scope base) (field_spot s call field) w
  spot_of s call _ w = Gives Nowhere w

  -- the spot of a field, payload bytes or a signal of a message; payload bytes trap where the index is
  -- not from 0 to 8 less their number
  pub field_spot : Setting → Calls Memory → Field → Held → World Memory → Run Memory Spot
  field_spot s call (Named name at) held w =
      Gives (spot_of_member held (member_named (signals_of held) name)) w
  field_spot s call (tree.Bytes kind index at) held w =
      and_then (value_of s call index w) (λ i w. indexing (9 - size kind) i w (InBytes held kind))

  -- the numbers that arguments give
  pub values_of : Setting → Calls Memory → {m : _} → Row_of-Expr m → World Memory → Run Memory (List ℤ)
  values_of s call end_of-Expr w = Gives [] w
  values_of s call (more_of-Expr first rest) w =
      and_then (value_of s call first w) (λ n w. run_map (λ ns. n ∷ ns) (values_of s call rest w))
