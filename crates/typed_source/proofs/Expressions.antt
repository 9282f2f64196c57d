-- The typed tree of each expression gives what the expression gives, and its typed place is its place.
use mathlib.Core.Former.{Count}
use Rattle.std.proofs.Common.{◌≡◌, ℕ, Bool, true, false, List, [], ◌∷◌, Option, Some, None, refl, sym, ap, ◌∙◌, subst}
use Rattle.std.specs.Prelude.{pos, if◌then◌else◌, slice_index_or}
use Rattle.std.specs.List.{AllZip}
use Rattle.std.specs.Option.{option_and_then, option_map_or}
use Rattle.int_kinds.specs.Arithmetic.{truth}
use Rattle.int_kinds.specs.declared.operators.BinOp.{BinOp}
use Rattle.int_kinds.specs.declared.operators.BinOp.TheVariants as op
use Rattle.int_kinds.specs.declared.operators.UnOp.TheVariants as prefix
use Rattle.texts.specs.declared.text.Text.{Text}
use Rattle.control_flow.specs.World.{World, Gives, and_then}
use Rattle.capl_tree.specs.declared.expr.Expr.{Expr, Row_of-Expr, end_of-Expr, more_of-Expr, items-the_row-Expr}
use Rattle.capl_tree.specs.declared.expr.Expr.TheVariants as expr
use Rattle.capl_tree.specs.declared.expr.Field.{Field}
use Rattle.capl_tree.specs.declared.expr.Field.TheVariants.{Named}
use Rattle.capl_tree.specs.Forms as tree
use Rattle.typed_tree.specs.declared.expression.Place.{Place}
use Rattle.typed_tree.specs.declared.expression.TExpr.{TExpr, items-the_row-TExpr}
use Rattle.typed_tree.specs.declared.expression.TExpr.TheVariants.{Const, Call', Active}
use Rattle.typed_tree.specs.Expression as typed
use Rattle.typed_tree.specs.Memory as cells
use Rattle.capl_meaning.specs.declared.builtin.Builtin.{Builtin}
use Rattle.capl_meaning.specs.declared.builtin.Builtin.TheVariants as builtin
use Rattle.capl_meaning.specs.declared.field.MessageField.{MessageField}
use Rattle.capl_meaning.specs.declared.field.MessageField.TheVariants.{Id, Dlc, Rtr, Can, Dir, Time}
use Rattle.capl_meaning.specs.Variable.{Form, Number, Array, Message, Timer, Misfit, Variable}
use Rattle.capl_meaning.specs.Names.{Callee, Function, OfLanguage, OfProgram, Scope, ThisForm, NoThis, ThisFrame, ThisKey, Unknown, callee, means}
use Rattle.capl_meaning.specs.Message.{Held, NamedMember, IsField, IsSignal, IsUnusable, IsUnknown, array_in, is_number_place, member_named, message_in, signals_of}
use Rattle.capl_meaning.specs.Sort.{kind_in, sort_of}
use Rattle.capl_meaning.specs.Constant.{elements_of, operands_kind}
use Rattle.capl_meaning.specs.Store.{timer_number}
use Rattle.capl_meaning.specs.Expression.{builtin_value, call_value, calling, spot_of_form, spot_of_member, timer_in, value_of, value_of_this, values_of}
use Rattle.capl_meaning.specs.Inside.Expression.{spot_of_name}
use Rattle.capl_meaning.specs.Expression as source
use Rattle.typed_laws.specs.Laid.{laid, laid_run, message_slot}
use Rattle.typed_laws.specs.Agreement.{AssignsAs, Beside, GivesAs, StandsAs, source_setting, typed_setting}
use Rattle.typed_laws.proofs.Calls.{calling_same, values_same}
use Rattle.typed_laws.proofs.Expressions.{binary_as, both_as, cast_as, character_as, choice_as, either_as, element_as, key_as, member_as, name_as, no_element_as, no_member_as, number_as, other_name_as, paren_as, prefix_as, step_as, step_behind_as, step_behind_nowhere_as, step_nowhere_as, store_as, store_nowhere_as, text_as, this_as, unknown_name_as, update_as, update_nowhere_as}
use Rattle.typed_laws.proofs.Places.{assignable, bytes_place, element_place, field_place, no_element_place, no_member_place, no_message_place, no_number_place, no_place, not_assignable, number_place, paren_place, signal_place}
use Rattle.typed_laws.proofs.Places as places
use Rattle.typed_laws.proofs.Runs.{then_same}
use Rattle.typed_source.specs.Expression.{assigned, expression_of, loaded, of_builtin, of_call, of_name, of_this, operation, place_in, place_of, place_of_element, place_of_field, place_of_form, place_of_member, place_of_name, place_of_part, row_of, stepping, storing, updating}
use Rattle.typed_source.specs.Program.{HasEach}
use Rattle.typed_source.proofs.Orders.{at_place, has_place}

-- the place of a field
same_field : (at : ℕ) (f : MessageField) → places.place_of_field at f ≡ place_of_field at f
same_field at Id = refl
same_field at Dlc = refl
same_field at Rtr = refl
same_field at Can = refl
same_field at Dir = refl
same_field at Time = refl

module _ (scope : Scope) (order : List ℕ) where
  -- ---- names

  stands_form : (name : Text) (at : ℕ) (v : Variable) → means scope name at ≡ Some v → (form : Form) → v.form ≡ form →
      StandsAs scope order (expr.Name name at) (place_of_form scope.names v form)
  stands_form name at v is (Number k fixed) e = number_place scope order name at v k fixed _ is e (λ _. refl)
  stands_form name at v is other e = no_number_place scope order name at (ap spot_of_name is ∙ ap (spot_of_form v) e)

  stands_name : (name : Text) (at : ℕ) (o : Option Variable) → means scope name at ≡ o → StandsAs scope order (expr.Name name at) (place_of_name scope.names o)
  stands_name name at None is = no_number_place scope order name at (ap spot_of_name is)
  stands_name name at (Some v) is = stands_form name at v is v.form refl

  loads_name : (name : Text) (at : ℕ) (v : Variable) → means scope name at ≡ Some v → (o : Option Place) → StandsAs scope order (expr.Name name at) o → GivesAs scope order (expr.Name name at) (loaded o)
  loads_name name at v is None f = other_name_as scope order name at v is f
  loads_name name at v is (Some place) f = name_as scope order name at place f

  gives_name : (name : Text) (at : ℕ) (o : Option Variable) → means scope name at ≡ o → GivesAs scope order (expr.Name name at) (of_name scope.names name o)
  gives_name name at None is = unknown_name_as scope order name at is
  gives_name name at (Some v) is = loads_name name at v is (place_of_form scope.names v v.form) (stands_form name at v is v.form refl)

  gives_this : (at : ℕ) (form : ThisForm) → scope.this ≡ form → GivesAs scope order (expr.This at) (of_this form)
  gives_this at ThisKey is = key_as scope order at is
  gives_this at NoThis is = this_as scope order at (λ this. ap (value_of_this this) is)
  gives_this at (ThisFrame signals) is = this_as scope order at (λ this. ap (value_of_this this) is)

  -- ---- elements and members

  stands_element : (base index : Expr) (at : ℕ) (i : TExpr) → GivesAs scope order index i → (o : Option Variable) → array_in scope base ≡ o →
      StandsAs scope order (tree.Index base index at) (place_of_element scope.names o i)
  stands_element base index at i f None is = no_element_place scope order base index at is
  stands_element base index at i f (Some v) is = element_place scope order base index at v _ _ i is (λ _. refl) refl f

  loads_element : (base index : Expr) (at : ℕ) (o : Option Place) → StandsAs scope order (tree.Index base index at) o → GivesAs scope order (tree.Index base index at) (loaded o)
  loads_element base index at None f = no_element_as scope order base index at f
  loads_element base index at (Some place) f = element_as scope order base index at place f

  stands_member : (base : Expr) (name : Text) (at here : ℕ) (held : Held) → message_in scope base ≡ Some held → (m : NamedMember) → member_named (signals_of held) name ≡ m →
      StandsAs scope order (tree.Member base (Named name at) here) (place_of_member (message_slot scope.names held) m)
  stands_member base name at here held is (IsField f) member =
      subst (λ p. StandsAs scope order (tree.Member base (Named name at) here) (Some p)) (same_field (message_slot scope.names held) f)
      (field_place scope order base name at here _ held f is member (λ _. refl))
  stands_member base name at here held is (IsSignal layout) member = signal_place scope order base name at here _ held layout is member (λ _. refl)
  stands_member base name at here held is IsUnusable member = no_member_place scope order base name at here held is (ap (spot_of_member held) member)
  stands_member base name at here held is (IsUnknown by_name) member = no_member_place scope order base name at here held is (ap (spot_of_member held) member)

  loads_member : (base : Expr) (field : Field) (at : ℕ) (o : Option Place) → StandsAs scope order (tree.Member base field at) o → GivesAs scope order (tree.Member base field at) (loaded o)
  loads_member base field at None f = no_member_as scope order base field at f
  loads_member base field at (Some place) f = member_as scope order base field at place f

  -- ---- assignments and operators

  assigns : (e : Expr) (place : Option Place) → StandsAs scope order e place → AssignsAs scope order e (assigned (is_number_place scope e) place)
  assigns e place f = go (is_number_place scope e) refl
    where
      go : (b : Bool) → is_number_place scope e ≡ b → AssignsAs scope order e (assigned b place)
      go true is = assignable scope order e place is f
      go false is = not_assignable scope order e is

  gives_step : (up : Bool) (inner : Expr) (at : ℕ) (o : Option Place) → AssignsAs scope order inner o →
      GivesAs scope order (tree.Unary (if up then prefix.Up else prefix.Down) inner at) (stepping (kind_in (sort_of scope inner)) up false o)
  gives_step up inner at None f = step_nowhere_as scope order up inner at _ refl f
  gives_step up inner at (Some place) f = step_as scope order up inner at _ place refl f

  gives_step_behind : (up : Bool) (inner : Expr) (at : ℕ) (o : Option Place) → AssignsAs scope order inner o →
      GivesAs scope order (tree.Post up inner at) (stepping (kind_in (sort_of scope inner)) up true o)
  gives_step_behind up inner at None f = step_behind_nowhere_as scope order up inner at f
  gives_step_behind up inner at (Some place) f = step_behind_as scope order up inner at _ place refl f

  gives_operation : (operator : BinOp) (left right : Expr) (at : ℕ) (t u : TExpr) → GivesAs scope order left t → GivesAs scope order right u →
      GivesAs scope order (tree.Binary operator left right at) (operation operator (operands_kind scope operator left right) t u)
  gives_operation op.AndAlso left right at t u f g = both_as scope order left right at t u f g
  gives_operation op.OrElse left right at t u f g = either_as scope order left right at t u f g
  gives_operation operator left right at t u f g = binary_as scope order operator left right at _ t u tt refl f g

  gives_store : (left right : Expr) (at : ℕ) (o : Option Place) (t : TExpr) → AssignsAs scope order left o → GivesAs scope order right t → GivesAs scope order (tree.Assign None left right at) (storing o t)
  gives_store left right at None t f g = store_nowhere_as scope order left right at t f g
  gives_store left right at (Some place) t f g = store_as scope order left right at place t f g

  gives_update : (operator : BinOp) (left right : Expr) (at : ℕ) (o : Option Place) (t : TExpr) → AssignsAs scope order left o → GivesAs scope order right t →
      GivesAs scope order (tree.Assign (Some operator) left right at) (updating operator (operands_kind scope operator left right) o t)
  gives_update operator left right at None t f g = update_nowhere_as scope order operator left right at _ t refl f g
  gives_update operator left right at (Some place) t f g = update_as scope order operator left right at _ place t refl f g

  -- ---- calls

  -- the number of a function of the language
  builtin_same : (b : Beside scope.names order) (w : World source.Memory) (found : Builtin) (arguments : List Expr) →
      typed.value_of (typed_setting b) b.typed_call (of_builtin scope found arguments) (laid scope.names b.this w) ≡
      laid_run scope.names b.this (Gives (builtin_value (source_setting b scope) w found arguments) w)
  builtin_same b w builtin.IsTimerActive [] = refl
  builtin_same b w builtin.IsTimerActive (timer ∷ []) = go (timer_in scope timer)
    where
      go : (o : Option Variable) → typed.value_of (typed_setting b) b.typed_call (option_map_or (λ v. Active (timer_number scope.names v)) o (Const (pos 0))) (laid scope.names b.this w) ≡
          laid_run scope.names b.this (Gives (truth (option_map_or (λ v. slice_index_or w.memory.active (timer_number scope.names v) false) o false)) w)
      go None = refl
      go (Some v) = refl
  builtin_same b w builtin.IsTimerActive (timer ∷ other ∷ rest) = refl
  builtin_same b w builtin.ElCount [] = refl
  builtin_same b w builtin.ElCount (array ∷ []) = go (array_in scope array)
    where
      go : (o : Option Variable) → typed.value_of (typed_setting b) b.typed_call (option_map_or (λ v. Const (pos (elements_of scope.names v))) o (Const (pos 0))) (laid scope.names b.this w) ≡
          laid_run scope.names b.this (Gives (option_map_or (λ v. pos (elements_of scope.names v)) o (pos 0)) w)
      go None = refl
      go (Some v) = refl
  builtin_same b w builtin.ElCount (array ∷ other ∷ rest) = refl
  builtin_same b w builtin.TimeNow arguments = refl
  builtin_same b w builtin.Output arguments = refl
  builtin_same b w builtin.Write arguments = refl
  builtin_same b w builtin.SetTimer arguments = refl
  builtin_same b w builtin.SetTimerCyclic arguments = refl
  builtin_same b w builtin.CancelTimer arguments = refl
  builtin_same b w builtin.Stop arguments = refl

  module _ (each : HasEach scope.names order) where
    -- a call of a function of the program, by its number in the order
    called_same : (name : Text) {m : Count} (row : Row_of-Expr m) (called : ℕ → TExpr) →
        ((b : Beside scope.names order) (k : ℕ) (w : World cells.Memory) → typed.value_of (typed_setting b) b.typed_call (called k) w ≡
        and_then (typed.values_of (typed_setting b) b.typed_call (row_of scope order row) w) (typed.calling (typed_setting b) b.typed_call k)) →
        AllZip (GivesAs scope order) (items-the_row-Expr m row) (items-the_row-TExpr m (row_of scope order row)) →
        (b : Beside scope.names order) (w : World source.Memory) (f : Function) → callee scope.names name ≡ OfProgram f → (o : Option ℕ) → place_in order f.number ≡ o →
        typed.value_of (typed_setting b) b.typed_call (option_map_or called o (Const (pos 0))) (laid scope.names b.this w) ≡
        laid_run scope.names b.this (and_then (values_of (source_setting b scope) b.call row w) (calling b.call f))
    called_same name row called is zipped b w f found None at = absurd (has_place f.number order (each f.number f (b.plain.numbered name f found)) at)
    called_same name row called is zipped b w f found (Some k) at =
        is b k (laid scope.names b.this w)
        ∙ then_same scope.names b.this (λ ns. ns) (λ n. n) (values_of (source_setting b scope) b.call row w) _ _ _ (values_same scope order b w row (row_of scope order row) zipped) (λ ns w.
        calling_same scope.names order b f k ns w (b.plain.numbered name f found) (at_place f.number order k at))

    gives_call : (name : Text) (at : ℕ) {m : Count} (row : Row_of-Expr m) (e : Expr) (called : ℕ → TExpr) →
        ((b : Beside scope.names order) (w : World source.Memory) → value_of (source_setting b scope) b.call e w ≡
        call_value (source_setting b scope) b.call (callee scope.names name) (items-the_row-Expr m row) (values_of (source_setting b scope) b.call row) w) →
        ((b : Beside scope.names order) (k : ℕ) (w : World cells.Memory) → typed.value_of (typed_setting b) b.typed_call (called k) w ≡
        and_then (typed.values_of (typed_setting b) b.typed_call (row_of scope order row) w) (typed.calling (typed_setting b) b.typed_call k)) →
        AllZip (GivesAs scope order) (items-the_row-Expr m row) (items-the_row-TExpr m (row_of scope order row)) →
        GivesAs scope order e (of_call scope order (callee scope.names name) (items-the_row-Expr m row) called)
    gives_call name at {m} row e called whole is zipped = record {
      same = λ b w. go b w (callee scope.names name) refl ∙ ap (laid_run scope.names b.this) (sym (whole b w));
    }
      where
        go : (b : Beside scope.names order) (w : World source.Memory) (c : Callee) → callee scope.names name ≡ c →
            typed.value_of (typed_setting b) b.typed_call (of_call scope order c (items-the_row-Expr m row) called) (laid scope.names b.this w) ≡
            laid_run scope.names b.this (call_value (source_setting b scope) b.call c (items-the_row-Expr m row) (values_of (source_setting b scope) b.call row) w)
        go b w (OfLanguage found) e = builtin_same b w found (items-the_row-Expr m row)
        go b w (OfProgram f) e = called_same name row called is zipped b w f e (place_in order f.number) refl
        go b w Unknown e = refl

    -- ---- expressions

    mutual
      -- the typed tree of each expression gives what the expression gives
      pub gives : (e : Expr) → GivesAs scope order e (expression_of scope order e)
      gives (expr.Num value extended at) = number_as scope order value extended at
      gives (expr.Char value at) = character_as scope order value at
      gives (expr.Str text at) = text_as scope order text at
      gives (expr.This at) = gives_this at scope.this refl
      gives (expr.Name name at) = gives_name name at (means scope name at) refl
      gives (tree.Paren inner at) = paren_as scope order inner at _ (gives inner)
      gives (expr.Call' name shape args at) =
          gives_call name at args (expr.Call' name shape args at) (λ f. Call' f shape (row_of scope order args)) (λ b w. refl) (λ b k w. refl) (gives_row args)
      gives (tree.Index base index at) =
          loads_element base index at _ (stands_element base index at _ (gives index) (array_in scope base) refl)
      gives (tree.Member base field at) = loads_member base field at _ (stands_part base at field (message_in scope base) refl)
      gives (tree.Cast kind inner at) = cast_as scope order kind inner at _ (gives inner)
      gives (tree.Unary prefix.Up inner at) = gives_step true inner at _ (assigns inner _ (stands inner))
      gives (tree.Unary prefix.Down inner at) = gives_step false inner at _ (assigns inner _ (stands inner))
      gives (tree.Unary prefix.Minus inner at) = prefix_as scope order prefix.Minus inner at _ _ tt refl (gives inner)
      gives (tree.Unary prefix.Plus inner at) = prefix_as scope order prefix.Plus inner at _ _ tt refl (gives inner)
      gives (tree.Unary prefix.Not inner at) = prefix_as scope order prefix.Not inner at _ _ tt refl (gives inner)
      gives (tree.Unary prefix.Inv inner at) = prefix_as scope order prefix.Inv inner at _ _ tt refl (gives inner)
      gives (tree.Post up inner at) = gives_step_behind up inner at _ (assigns inner _ (stands inner))
      gives (tree.Binary operator left right at) = gives_operation operator left right at _ _ (gives left) (gives right)
      gives (tree.Cond test one other at) = choice_as scope order test one other at _ _ _ _ refl (gives test) (gives one) (gives other)
      gives (tree.Assign None left right at) = gives_store left right at _ _ (assigns left _ (stands left)) (gives right)
      gives (tree.Assign (Some operator) left right at) = gives_update operator left right at _ _ (assigns left _ (stands left)) (gives right)

      -- its typed place is the place that it is
      pub stands : (e : Expr) → StandsAs scope order e (place_of scope order e)
      stands (tree.Paren inner at) = paren_place scope order inner at _ (stands inner)
      stands (expr.Name name at) = stands_name name at (means scope name at) refl
      stands (tree.Index base index at) = stands_element base index at _ (gives index) (array_in scope base) refl
      stands (tree.Member base field at) = stands_part base at field (message_in scope base) refl
      stands e = no_place scope order e (λ b w. refl)

      stands_part : (base : Expr) (at : ℕ) (field : Field) (o : Option Held) → message_in scope base ≡ o →
          StandsAs scope order (tree.Member base field at) (option_and_then (place_of_part scope order field) o)
      stands_part base at field None is = no_message_place scope order base field at is
      stands_part base at (Named name here) (Some held) is = stands_member base name here at held is (member_named (signals_of held) name) refl
      stands_part base at (tree.Bytes kind index here) (Some held) is = bytes_place scope order base kind index here at _ held _ is (λ _. refl) (gives index)

      gives_row : {m : Count} (row : Row_of-Expr m) → AllZip (GivesAs scope order) (items-the_row-Expr m row) (items-the_row-TExpr m (row_of scope order row))
      gives_row end_of-Expr = tt
      gives_row (more_of-Expr first rest) = (gives first, gives_row rest)
