-- What a procedure does depends on `this` only as far as it sees it.
use mathlib.Core.Former.{Count}
use Rattle.std.proofs.Common.{◌≡◌, ◌-◌, ℕ, Bool, true, false, List, ◌∷◌, Option, Some, None, refl, ap, ◌∙◌}
use Rattle.std.specs.Prelude.{ℤ, pos, if◌then◌else◌}
use Rattle.std.specs.Option.{option_and_then}
use Rattle.int_kinds.specs.declared.kinds.Kind.{Kind}
use Rattle.int_kinds.specs.declared.kinds.Kind.TheVariants as kind
use Rattle.int_kinds.specs.declared.operators.BinOp.{BinOp}
use Rattle.int_kinds.specs.declared.operators.BinOp.TheVariants as op
use Rattle.int_kinds.specs.declared.operators.UnOp.TheVariants as prefix
use Rattle.int_kinds.specs.Kind.{join, wrap}
use Rattle.message_cells.specs.Message.{size}
use Rattle.control_flow.specs.World.{World, Run, Gives, Fails, and_then, run_map}
use Rattle.control_flow.specs.Control.{Calls, Computes, deciding}
use Rattle.capl_tree.specs.declared.expr.Expr.{Expr, Row_of-Expr, end_of-Expr, more_of-Expr, items-the_row-Expr}
use Rattle.capl_tree.specs.declared.expr.Expr.TheVariants as expr
use Rattle.capl_tree.specs.declared.expr.Field.{Field}
use Rattle.capl_tree.specs.declared.expr.Field.TheVariants.{Named}
use Rattle.capl_tree.specs.Forms as tree
use Rattle.capl_meaning.specs.Variable.{Form, Number, Array, Message, Timer, Misfit, Variable}
use Rattle.capl_meaning.specs.Names.{Callee, OfLanguage, OfProgram, Unknown, Scope, ThisForm, NoThis, ThisFrame, ThisKey, callee, means}
use Rattle.capl_meaning.specs.Message.{Held, HeldFrame, HeldVariable, NamedMember, IsField, IsSignal, IsUnusable, IsUnknown, array_in, held_by, held_this, is_number_place, member_named, message_in, signals_of}
use Rattle.capl_meaning.specs.Sort.{kind_in, sort_of}
use Rattle.capl_meaning.specs.Operator.{prefix_value, truth_of}
use Rattle.capl_meaning.specs.Constant.{branches_kind, elements_of, operands_kind, prefix_kind}
use Rattle.capl_meaning.specs.Store.{Store, This}
use Rattle.capl_meaning.specs.Expression.{InBytes, InElement, InField, InNumber, InSignal, Memory, Nowhere, Setting, Spot, call_value, calling, element_spot, field_spot, held_message, indexing, kind_of_elements, operates, part_spot, place_spot, read, reads, spot_of, spot_of_form, spot_of_member, step_by_one, stores, value_of, value_of_this, values_of, with_store, write}
use Rattle.capl_meaning.specs.Inside.Expression.{spot_of_name, step_operator, value_of_name}
use Rattle.typed_laws.specs.Laid.{GivesOnly}
use Rattle.typed_laws.specs.Seen.{SameSeen}
use Rattle.typed_laws.proofs.Places.{indexed_only}

module _ (scope : Scope) (a b : This) (h : SameSeen scope.this a b) (closed : Bool) (moment : ℕ) (call : Calls Memory) where
  abbrev one : Setting
  one = record { scope = scope; this = a; closed = closed; moment = moment }

  abbrev other : Setting
  other = record { scope = scope; this = b; closed = closed; moment = moment }

  -- a place where the same number stands for both
  abbrev IsSeen : Spot → Type 0
  IsSeen spot = (store : Store) → read a spot store ≡ read b spot store

  -- ---- messages

  frame_seen : (form : ThisForm) → SameSeen form a b → (held : Held) → held_this form ≡ Some held → (store : Store) → held_message a store held ≡ held_message b store held
  frame_seen (ThisFrame signals) g (HeldFrame found) e store = g
  frame_seen (ThisFrame signals) g (HeldVariable v found) e store = refl
  frame_seen NoThis g held e store = absurd (let f : None ≡ Some held = e in cc)
  frame_seen ThisKey g held e store = absurd (let f : None ≡ Some held = e in cc)

  variable_seen : (o : Option Variable) (held : Held) → option_and_then (λ v. held_by v v.form) o ≡ Some held → (store : Store) → held_message a store held ≡ held_message b store held
  variable_seen None held e store = absurd (let f : None ≡ Some held = e in cc)
  variable_seen (Some v) held e store = by_form v.form held e
    where
      by_form : (form : Form) (held : Held) → held_by v form ≡ Some held → held_message a store held ≡ held_message b store held
      by_form form (HeldVariable u signals) e = refl
      by_form (Message type_) (HeldFrame signals) e = absurd (let f : Some (HeldVariable v (Rattle.capl_meaning.specs.Message.signals_of_type type_)) ≡ Some (HeldFrame signals) = e in cc)
      by_form (Number k fixed) (HeldFrame signals) e = absurd (let f : None ≡ Some (HeldFrame signals) = e in cc)
      by_form (Array k fixed given) (HeldFrame signals) e = absurd (let f : None ≡ Some (HeldFrame signals) = e in cc)
      by_form (Timer unit) (HeldFrame signals) e = absurd (let f : None ≡ Some (HeldFrame signals) = e in cc)
      by_form Misfit (HeldFrame signals) e = absurd (let f : None ≡ Some (HeldFrame signals) = e in cc)

  -- a message that is named is the same for both
  pub message_seen : (e : Expr) (held : Held) → message_in scope e ≡ Some held → (store : Store) → held_message a store held ≡ held_message b store held
  message_seen (tree.Paren inner at) held is store = message_seen inner held is store
  message_seen (expr.This at) held is store = frame_seen scope.this h held is store
  message_seen (expr.Name name at) held is store = variable_seen (means scope name at) held is store
  message_seen e held is store = absurd (let f : None ≡ Some held = is in cc)

  -- ---- places

  name_is_seen : (o : Option Variable) → IsSeen (spot_of_name o)
  name_is_seen None store = refl
  name_is_seen (Some v) store = by_form v.form
    where
      by_form : (form : Form) → read a (spot_of_form v form) store ≡ read b (spot_of_form v form) store
      by_form (Number k fixed) = refl
      by_form (Array k fixed given) = refl
      by_form (Message type_) = refl
      by_form (Timer unit) = refl
      by_form Misfit = refl

  element_is_seen : (o : Option Variable) (index : Computes Memory) (w : World Memory) → GivesOnly IsSeen (element_spot one o index w)
  element_is_seen None index w = λ store. refl
  element_is_seen (Some v) index w = indexed_only IsSeen (elements_of scope.names v) (index w) (InElement (kind_of_elements v.form) v) (λ j store. refl)

  member_is_seen : (held : Held) → ((store : Store) → held_message a store held ≡ held_message b store held) → (m : NamedMember) → IsSeen (spot_of_member held m)
  member_is_seen held same (IsField f) store = ap (Rattle.capl_meaning.specs.Store.read_field f) (same store)
  member_is_seen held same (IsSignal layout) store = ap (Rattle.capl_meaning.specs.Store.read_signal layout) (same store)
  member_is_seen held same IsUnusable store = refl
  member_is_seen held same (IsUnknown by_name) store = refl

  part_is_seen : (field : Field) (o : Option Held) → ((held : Held) → o ≡ Some held → (store : Store) → held_message a store held ≡ held_message b store held) → (w : World Memory) →
      GivesOnly IsSeen (part_spot o (field_spot one call field) w)
  part_is_seen field None same w = λ store. refl
  part_is_seen (Named name at) (Some held) same w = member_is_seen held (same held refl) (member_named (signals_of held) name)
  part_is_seen (tree.Bytes k index at) (Some held) same w =
      indexed_only IsSeen (9 - size k) (value_of one call index w) (InBytes held k) (λ j store. ap (Rattle.capl_meaning.specs.Store.read_bytes k j) (same held refl store))

  -- each place that an expression is
  spot_is_seen : (e : Expr) (w : World Memory) → GivesOnly IsSeen (spot_of one call e w)
  spot_is_seen (tree.Paren inner at) w = spot_is_seen inner w
  spot_is_seen (expr.Name name at) w = name_is_seen (means scope name at)
  spot_is_seen (tree.Index base index at) w = element_is_seen (array_in scope base) (value_of one call index) w
  spot_is_seen (tree.Member base field at) w = part_is_seen field (message_in scope base) (λ held is store. message_seen base held is store) w
  spot_is_seen e w = λ store. refl

  place_is_seen : (e : Expr) (w : World Memory) → GivesOnly IsSeen (place_spot one e (spot_of one call e) w)
  place_is_seen e w = go (is_number_place scope e)
    where
      go : (t : Bool) → GivesOnly IsSeen (if t then spot_of one call e w else Gives Nowhere w)
      go true = spot_is_seen e w
      go false = λ store. refl

  -- what comes after a place that is the same for both
  then_seen : {A : Type 0} (run run' : Run Memory Spot) (next next' : Spot → World Memory → Run Memory A) → run ≡ run' → GivesOnly IsSeen run → ((spot : Spot) (w : World Memory) → IsSeen spot → next spot w ≡ next' spot w) →
      and_then run next ≡ and_then run' next'
  then_seen run run' next next' e only f = on run only ∙ ap (λ r. and_then r next') e
    where
      on : (r : Run Memory Spot) → GivesOnly IsSeen r → and_then r next ≡ and_then r next'
      on (Gives spot w) seen = f spot w seen
      on (Fails outcome w) seen = refl

  reads_seen : (spot : Spot) (w : World Memory) → IsSeen spot → reads one spot w ≡ reads other spot w
  reads_seen spot w seen = ap (λ n. Gives n w) (seen w.memory.store)

  stores_seen : (spot : Spot) (n : ℤ) (w : World Memory) → IsSeen spot → stores one spot n w ≡ stores other spot n w
  stores_seen Nowhere n w seen = refl
  stores_seen (InNumber k v) n w seen = refl
  stores_seen (InElement k v i) n w seen = refl
  stores_seen (InField held f) n w seen = ap (λ m. Gives m (with_store (write (InField held f) n w.memory.store) w)) (seen (write (InField held f) n w.memory.store))
  stores_seen (InBytes held k i) n w seen = ap (λ m. Gives m (with_store (write (InBytes held k i) n w.memory.store) w)) (seen (write (InBytes held k i) n w.memory.store))
  stores_seen (InSignal held l) n w seen = ap (λ m. Gives m (with_store (write (InSignal held l) n w.memory.store) w)) (seen (write (InSignal held l) n w.memory.store))

  steps_seen : (operator : BinOp) (behind : Bool) (k : Kind) (spot : Spot) (w : World Memory) → IsSeen spot → step_by_one one operator behind k spot w ≡ step_by_one other operator behind k spot w
  steps_seen operator behind k spot w seen = λ i. and_then (reads_seen spot w seen i) (λ old w. and_then (operates operator (join k kind.Long) old (pos 1) w) (λ new w.
      run_map (λ now. if behind then old else now) (stores_seen spot new w seen i)))

  key_seen : (form : ThisForm) → SameSeen form a b → value_of_this a form ≡ value_of_this b form
  key_seen NoThis g = refl
  key_seen (ThisFrame signals) g = refl
  key_seen ThisKey g = g

  named_seen : (name : List ℕ) (o : Option Variable) (w : World Memory) → value_of_name one name o w ≡ value_of_name other name o w
  named_seen name None w = refl
  named_seen name (Some v) w = reads_seen (spot_of_form v v.form) w (name_is_seen (Some v))

  -- ---- expressions

  call_seen : (c : Callee) (args : List Expr) (numbers numbers' : World Memory → Run Memory (List ℤ)) → numbers ≡ numbers' → (w : World Memory) → call_value one call c args numbers w ≡ call_value other call c args numbers' w
  call_seen (OfLanguage found) args numbers numbers' e w = refl
  call_seen (OfProgram f) args numbers numbers' e w = ap (λ (run : World Memory → Run Memory (List ℤ)). and_then (run w) (calling call f)) e
  call_seen Unknown args numbers numbers' e w = refl

  mutual
    pub value_seen : (e : Expr) (w : World Memory) → value_of one call e w ≡ value_of other call e w
    value_seen (expr.Num value extended at) w = refl
    value_seen (expr.Char value at) w = refl
    value_seen (expr.Str text at) w = refl
    value_seen (expr.This at) w = ap (λ n. Gives n w) (key_seen scope.this h)
    value_seen (expr.Name name at) w = named_seen name (means scope name at) w
    value_seen (tree.Paren inner at) w = value_seen inner w
    value_seen (expr.Call' name shape args at) w = call_seen (callee scope.names name) (items-the_row-Expr _ args) (values_of one call args) (values_of other call args) (λ i w. values_seen args w i) w
    value_seen (tree.Index base index at) w =
        then_seen (element_spot one (array_in scope base) (value_of one call index) w) (element_spot other (array_in scope base) (value_of other call index) w) (reads one) (reads other)
        (λ i. element_spot one (array_in scope base) (λ w. value_seen index w i) w) (element_is_seen (array_in scope base) (value_of one call index) w) reads_seen
    value_seen (tree.Member base field at) w =
        then_seen (part_spot (message_in scope base) (field_spot one call field) w) (part_spot (message_in scope base) (field_spot other call field) w) (reads one) (reads other)
        (λ i. part_spot (message_in scope base) (λ held w. field_seen field held w i) w)
        (part_is_seen field (message_in scope base) (λ held is store. message_seen base held is store) w) reads_seen
    value_seen (tree.Cast k inner at) w = λ i. run_map (wrap k) (value_seen inner w i)
    value_seen (tree.Unary prefix.Up inner at) w =
        then_seen (place_spot one inner (spot_of one call inner) w) (place_spot other inner (spot_of other call inner) w) (step_by_one one op.Add false (kind_in (sort_of scope inner))) (step_by_one other op.Add false (kind_in (sort_of scope inner)))
        (λ i. place_spot one inner (λ w. spot_seen inner w i) w) (place_is_seen inner w) (steps_seen op.Add false (kind_in (sort_of scope inner)))
    value_seen (tree.Unary prefix.Down inner at) w =
        then_seen (place_spot one inner (spot_of one call inner) w) (place_spot other inner (spot_of other call inner) w) (step_by_one one op.Sub false (kind_in (sort_of scope inner))) (step_by_one other op.Sub false (kind_in (sort_of scope inner)))
        (λ i. place_spot one inner (λ w. spot_seen inner w i) w) (place_is_seen inner w) (steps_seen op.Sub false (kind_in (sort_of scope inner)))
    value_seen (tree.Unary operator inner at) w = λ i. run_map (prefix_value operator (prefix_kind scope inner)) (value_seen inner w i)
    value_seen (tree.Post up inner at) w =
        then_seen (place_spot one inner (spot_of one call inner) w) (place_spot other inner (spot_of other call inner) w) (step_by_one one (step_operator up) true (kind_in (sort_of scope inner)))
        (step_by_one other (step_operator up) true (kind_in (sort_of scope inner)))
        (λ i. place_spot one inner (λ w. spot_seen inner w i) w) (place_is_seen inner w) (steps_seen (step_operator up) true (kind_in (sort_of scope inner)))
    value_seen (tree.Binary op.AndAlso left right at) w = λ i. deciding (value_seen left w i) (λ w. run_map truth_of (value_seen right w i)) (Gives (pos 0))
    value_seen (tree.Binary op.OrElse left right at) w = λ i. deciding (value_seen left w i) (Gives (pos 1)) (λ w. run_map truth_of (value_seen right w i))
    value_seen (tree.Binary operator left right at) w = λ i. and_then (value_seen left w i) (λ m w. and_then (value_seen right w i) (λ n w. operates operator (operands_kind scope operator left right) m n w))
    value_seen (tree.Cond test first second at) w = λ i. deciding (value_seen test w i) (λ w. run_map (wrap (branches_kind scope first second)) (value_seen first w i)) (λ w. run_map (wrap (branches_kind scope first second)) (value_seen second w i))
    value_seen (tree.Assign None left right at) w =
        then_seen (place_spot one left (spot_of one call left) w) (place_spot other left (spot_of other call left) w) (λ spot w. and_then (value_of one call right w) (stores one spot)) (λ spot w. and_then (value_of other call right w) (stores other spot))
        (λ i. place_spot one left (λ w. spot_seen left w i) w) (place_is_seen left w) (λ spot w seen i. and_then (value_seen right w i) (λ n w. stores_seen spot n w seen i))
    value_seen (tree.Assign (Some operator) left right at) w =
        then_seen (place_spot one left (spot_of one call left) w) (place_spot other left (spot_of other call left) w)
        (λ spot w. and_then (reads one spot w) (λ old w. and_then (value_of one call right w) (λ n w. and_then (operates operator (operands_kind scope operator left right) old n w) (stores one spot))))
        (λ spot w. and_then (reads other spot w) (λ old w. and_then (value_of other call right w) (λ n w. and_then (operates operator (operands_kind scope operator left right) old n w) (stores other spot))))
        (λ i. place_spot one left (λ w. spot_seen left w i) w) (place_is_seen left w)
        (λ spot w seen i. and_then (reads_seen spot w seen i) (λ old w. and_then (value_seen right w i) (λ n w. and_then (operates operator (operands_kind scope operator left right) old n w) (λ n w. stores_seen spot n w seen i))))

    spot_seen : (e : Expr) (w : World Memory) → spot_of one call e w ≡ spot_of other call e w
    spot_seen (tree.Paren inner at) w = spot_seen inner w
    spot_seen (expr.Name name at) w = refl
    spot_seen (tree.Index base index at) w = λ i. element_spot one (array_in scope base) (λ w. value_seen index w i) w
    spot_seen (tree.Member base field at) w = λ i. part_spot (message_in scope base) (λ held w. field_seen field held w i) w
    spot_seen e w = refl

    field_seen : (field : Field) (held : Held) (w : World Memory) → field_spot one call field held w ≡ field_spot other call field held w
    field_seen (Named name at) held w = refl
    field_seen (tree.Bytes k index at) held w = λ i. and_then (value_seen index w i) (λ j w. indexing (9 - size k) j w (InBytes held k))

    values_seen : {m : Count} (row : Row_of-Expr m) (w : World Memory) → values_of one call row w ≡ values_of other call row w
    values_seen end_of-Expr w = refl
    values_seen (more_of-Expr first rest) w = λ i. and_then (value_seen first w i) (λ n w. run_map (λ ns. n ∷ ns) (values_seen rest w i))
