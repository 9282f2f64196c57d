-- Each form of a typed place is the place of its form of expressions.
use Rattle.std.proofs.Common.{◌≡◌, ℕ, ◌+◌, ◌-◌, ◌<◌, ◌≤◌, inl, inr, Bool, true, false, List, [], ◌∷◌, Option, Some, None, refl, sym, ap, ◌∙◌, subst, arith}
use Rattle.std.specs.Prelude.{ℤ, pos, negsuc, nat_lt, find, if◌then◌else◌, cond}
use Rattle.std.specs.Option.{option_and_then, option_map_or, option_or}
use Rattle.std.proofs.lemmas.Bool.{ltb-true}
use Rattle.int_kinds.specs.declared.kinds.Kind.{Kind}
use Rattle.signal_codec.specs.declared.layout.Layout.{Layout}
use Rattle.texts.specs.declared.text.Text.{Text}
use Rattle.message_cells.specs.Message.{size}
use Rattle.run_effects.specs.declared.outcome.Outcome.TheVariants.{Trapped}
use Rattle.run_effects.specs.declared.outcome.TrapKind.TheVariants.{Index}
use Rattle.control_flow.specs.World.{World, Run, Gives, Fails, and_then}
use Rattle.control_flow.specs.Control.{Computes}
use Rattle.capl_tree.specs.declared.expr.Expr.{Expr}
use Rattle.capl_tree.specs.declared.expr.Expr.TheVariants as expr
use Rattle.capl_tree.specs.declared.expr.Field.{Field}
use Rattle.capl_tree.specs.declared.expr.Field.TheVariants.{Named}
use Rattle.capl_tree.specs.Forms as tree
use Rattle.typed_tree.specs.declared.expression.Place.{Place}
use Rattle.typed_tree.specs.declared.expression.Place.TheVariants.{Cell, Set, Signal}
use Rattle.typed_tree.specs.declared.expression.TExpr.{TExpr}
use Rattle.typed_tree.specs.Forms.{Bytes, Elem}
use Rattle.typed_tree.specs.Expression as typed
use Rattle.typed_tree.specs.Memory as cells
use Rattle.capl_meaning.specs.declared.field.MessageField.{MessageField}
use Rattle.capl_meaning.specs.declared.field.MessageField.TheVariants.{Id, Dlc, Rtr, Can, Dir, Time}
use Rattle.capl_meaning.specs.Variable.{Form, Number, Array, Message, Timer, Misfit, Variable}
use Rattle.capl_meaning.specs.Names.{Names, Scope, ThisForm, NoThis, ThisFrame, ThisKey, global, is_local, means}
use Rattle.capl_meaning.specs.Message.{Held, HeldFrame, HeldVariable, NamedMember, IsField, IsSignal, IsUnusable, IsUnknown, array_by, array_in, held_by, held_this, is_number_place, is_open_array, is_open_member, is_open_number, is_open_part, is_variable, member_named, message_in, signals_of, signals_of_type}
use Rattle.capl_meaning.specs.Constant.{elements_of}
use Rattle.capl_meaning.specs.Store.{This, variable_key}
use Rattle.capl_meaning.specs.Expression.{Nowhere, InNumber, InElement, InField, InBytes, InSignal, element_spot, field_spot, indexing, kind_of_elements, part_spot, place_spot, spot_of, spot_of_form, spot_of_member, value_of}
use Rattle.capl_meaning.specs.Inside.Names.{is_global}
use Rattle.capl_meaning.specs.Inside.Expression.{spot_of_name}
use Rattle.capl_meaning.specs.Expression as source
use Rattle.typed_laws.specs.Laid.{AreDistinct, GivesOnly, HasForm, IsAmong, IsHeld, IsOpen, IsReal, laid, laid_field, laid_run, laid_spot, mapped, message_slot, slot}
use Rattle.typed_laws.specs.Agreement.{AssignsAs, Beside, GivesAs, StandsAs, source_setting, typed_setting}
use Rattle.typed_laws.proofs.Runs.{then_same}

-- ---- what is named is among the variables

-- what is found in a list is one of those in it
pub found_among : {A : Type 0} (test : A → Bool) (vs : List A) (v : A) → find test vs ≡ Some v → IsAmong v vs
found_among test [] v e = absurd (let f : None ≡ Some v = e in cc)
found_among test (u ∷ us) v e = go (found_among test us v) (test u) e
  where
    go : (find test us ≡ Some v → IsAmong v us) → (b : Bool) → cond b (Some u) (find test us) ≡ Some v → IsAmong v (u ∷ us)
    go further true h = let f : Some u ≡ Some v = h in inl cc
    go further false h = inr (further h)

-- what a name means is one of the variables
pub means_among : (s : Scope) (name : List ℕ) (at : ℕ) (v : Variable) → means s name at ≡ Some v → IsAmong v s.names.variables
means_among s name at v e = go (find (is_local s.owner name at) s.names.variables) refl e
  where
    go : (o : Option Variable) → find (is_local s.owner name at) s.names.variables ≡ o → option_or o (global s.names name) ≡ Some v → IsAmong v s.names.variables
    go None h e = found_among (is_global name) s.names.variables v e
    go (Some u) h e = let f : Some u ≡ Some v = e in found_among (is_local s.owner name at) s.names.variables v (h ∙ f)

-- an array that is named
pub record IsArray (names : Names) (v : Variable) : Type 0 where
  pub kind : Kind
  pub fixed : Bool
  pub size_given : Expr
  pub form : HasForm names v (Array kind fixed size_given)

array_of_form : (names : Names) (u v : Variable) (form : Form) → IsAmong u names.variables → u.form ≡ form → array_by form u ≡ Some v → IsArray names v
array_of_form names u v (Array k fixed given) among is e =
    let same : u ≡ v = let f : Some u ≡ Some v = e in cc in
    record { kind = k; fixed = fixed; size_given = given; form = subst (λ x. HasForm names x (Array k fixed given)) same (record { among = among; form_is = is }) }
array_of_form names u v (Number k fixed) among is e = absurd (let f : None ≡ Some v = e in cc)
array_of_form names u v (Message type_) among is e = absurd (let f : None ≡ Some v = e in cc)
array_of_form names u v (Timer unit) among is e = absurd (let f : None ≡ Some v = e in cc)
array_of_form names u v Misfit among is e = absurd (let f : None ≡ Some v = e in cc)

-- what is named as an array is one
pub array_named : (s : Scope) (e : Expr) (v : Variable) → array_in s e ≡ Some v → IsArray s.names v
array_named s (tree.Paren inner at) v h = array_named s inner v h
array_named s (expr.Name name at) v h = go (means s name at) refl h
  where
    go : (o : Option Variable) → means s name at ≡ o → option_and_then (λ v. array_by v.form v) o ≡ Some v → IsArray s.names v
    go None is h = absurd (let f : None ≡ Some v = h in cc)
    go (Some u) is h = array_of_form s.names u v u.form (means_among s name at u is) refl h
array_named s e v h = absurd (let f : None ≡ Some v = h in cc)

held_of_form : (names : Names) (u : Variable) (held : Held) (form : Form) → IsAmong u names.variables → u.form ≡ form → held_by u form ≡ Some held → IsHeld names held
held_of_form names u held (Message type_) among is e =
    let same : HeldVariable u (signals_of_type type_) ≡ held = let f : Some (HeldVariable u (signals_of_type type_)) ≡ Some held = e in cc in
    subst (IsHeld names) same (type_, record { among = among; form_is = is })
held_of_form names u held (Array k fixed given) among is e = absurd (let f : None ≡ Some held = e in cc)
held_of_form names u held (Number k fixed) among is e = absurd (let f : None ≡ Some held = e in cc)
held_of_form names u held (Timer unit) among is e = absurd (let f : None ≡ Some held = e in cc)
held_of_form names u held Misfit among is e = absurd (let f : None ≡ Some held = e in cc)

-- what is named as a message is one
pub message_named : (s : Scope) (e : Expr) (held : Held) → message_in s e ≡ Some held → IsHeld s.names held
message_named s (tree.Paren inner at) held h = message_named s inner held h
message_named s (expr.This at) held h = go s.this h
  where
    go : (form : ThisForm) → held_this form ≡ Some held → IsHeld s.names held
    go (ThisFrame signals) h = let same : HeldFrame signals ≡ held = let f : Some (HeldFrame signals) ≡ Some held = h in cc in subst (IsHeld s.names) same tt
    go NoThis h = absurd (let f : None ≡ Some held = h in cc)
    go ThisKey h = absurd (let f : None ≡ Some held = h in cc)
message_named s (expr.Name name at) held h = go (means s name at) refl h
  where
    go : (o : Option Variable) → means s name at ≡ o → option_and_then (λ v. held_by v v.form) o ≡ Some held → IsHeld s.names held
    go None is h = absurd (let f : None ≡ Some held = h in cc)
    go (Some u) is h = held_of_form s.names u held u.form (means_among s name at u is) refl h
message_named s e held h = absurd (let f : None ≡ Some held = h in cc)

-- ---- indices

-- an index with its check, where the place that it leads to is there if it is in range
indexing_same : (names : Names) (this : This) (P : source.Spot → Type 0) (len : ℕ) (i : ℤ) (w : World source.Memory) (spot : ℕ → source.Spot) (spot' : ℕ → cells.Spot) →
    ((j : ℕ) → spot' j ≡ laid_spot names (spot j)) → ((j : ℕ) → j < len → P (spot j)) →
    (typed.indexing len i (laid names this w) spot' ≡ mapped names this (laid_spot names) (indexing len i w spot)) × GivesOnly P (indexing len i w spot)
indexing_same names this P len (pos i) w spot spot' is real = go (nat_lt i len) refl
  where
    go : (b : Bool) → nat_lt i len ≡ b →
        (typed.indexing len (pos i) (laid names this w) spot' ≡ mapped names this (laid_spot names) (indexing len (pos i) w spot)) × GivesOnly P (indexing len (pos i) w spot)
    go true e = (rw e (ap (λ p. Gives p (laid names this w)) (is i)), rw e (real i (ltb-true i len e)))
    go false e = (rw e refl, rw e tt)
indexing_same names this P len (negsuc i) w spot spot' is real = (refl, tt)

module _ (names : Names) (this : This) (P : source.Spot → Type 0) where
  -- an index is computed and checked
  index_same : (len : ℕ) (run : Run source.Memory ℤ) (run' : Run cells.Memory ℤ) (spot : ℕ → source.Spot) (spot' : ℕ → cells.Spot) → run' ≡ laid_run names this run →
      ((j : ℕ) → spot' j ≡ laid_spot names (spot j)) → ((j : ℕ) → j < len → P (spot j)) →
      (and_then run' (λ i w. typed.indexing len i w spot') ≡ mapped names this (laid_spot names) (and_then run (λ i w. indexing len i w spot))) ×
      GivesOnly P (and_then run (λ i w. indexing len i w spot))
  index_same len run run' spot spot' e is real =
      (then_same names this (λ i. i) (laid_spot names) run run' _ _ e (λ i w. (indexing_same names this P len i w spot spot' is real).0), only run)
    where
      only : (r : Run source.Memory ℤ) → GivesOnly P (and_then r (λ i w. indexing len i w spot))
      only (Gives i w) = (indexing_same names this P len i w spot spot' is real).1
      only (Fails o w) = tt

-- the typed place of a field of the message at a cell
abbrev pub place_of_field : ℕ → MessageField → Place
place_of_field at Id = Set at 0
place_of_field at Dlc = Set at 1
place_of_field at Rtr = Set at 2
place_of_field at Can = Set at 3
place_of_field at Dir = Cell (at + 4)
place_of_field at Time = Cell (at + 5)

module _ (scope : Scope) (order : List ℕ) where
  pub paren_place : (inner : Expr) (at : ℕ) (place : Option Place) → StandsAs scope order inner place → StandsAs scope order (tree.Paren inner at) place
  paren_place inner at None f = record { same = λ b w. f.same b w }
  paren_place inner at (Some place) f = record { same = λ b w. f.same b w }

  -- a number variable
  pub number_place : (name : Text) (at : ℕ) (v : Variable) (k : Kind) (fixed : Bool) (cell : ℕ) → means scope name at ≡ Some v → v.form ≡ Number k fixed →
      (AreDistinct scope.names.variables → cell ≡ slot scope.names (variable_key v)) → StandsAs scope order (expr.Name name at) (Some (Cell cell))
  number_place name at v k fixed cell is form where_ = record {
    same = λ b w.
        let e : spot_of_name (means scope name at) ≡ InNumber k v = ap spot_of_name is ∙ ap (spot_of_form v) form in (
          ap (λ n. Gives (cells.InCell n) (laid scope.names b.this w)) (where_ b.plain.distinct) ∙ ap (λ spot. Gives (laid_spot scope.names spot) (laid scope.names b.this w)) (sym e),
          rw e (fixed, record { among = means_among scope name at v is; form_is = form }),
        );
  }

  -- a name that is no number variable
  pub no_number_place : (name : Text) (at : ℕ) → spot_of_name (means scope name at) ≡ Nowhere → StandsAs scope order (expr.Name name at) None
  no_number_place name at e = record { same = λ b w. ap (λ spot. Gives spot w) e }

  -- an element of an array
  pub element_place : (base index : Expr) (at : ℕ) (v : Variable) (cell len : ℕ) (i : TExpr) → array_in scope base ≡ Some v →
      (AreDistinct scope.names.variables → cell ≡ slot scope.names (variable_key v)) → len ≡ elements_of scope.names v → GivesAs scope order index i →
      StandsAs scope order (tree.Index base index at) (Some (Elem cell len i))
  element_place base index at v cell len i is where_ long f = record {
    same = λ b w.
        let names = scope.names in
        let array = array_named scope base v is in
        let s = source_setting b scope in
        let run = value_of s b.call index w in
        let found : kind_of_elements v.form ≡ array.kind = ap kind_of_elements array.form.form_is in
        let whole : spot_of s b.call (tree.Index base index at) w ≡ and_then run (λ i w. indexing (elements_of names v) i w (InElement array.kind v)) =
        ap (λ a. element_spot s a (value_of s b.call index) w) is ∙ ap (λ k. and_then run (λ i w. indexing (elements_of names v) i w (InElement k v))) found in
        let ready = index_same names b.this (IsReal names) (elements_of names v) run _ (InElement array.kind v) (λ j. cells.InCell (cell + j)) (f.same b w)
        (λ j. ap (λ n. cells.InCell (n + j)) (where_ b.plain.distinct)) (λ j less. (array.fixed, array.size_given, array.form, less)) in
        let typed_index = typed.value_of (typed_setting b) b.typed_call i (laid names b.this w) in (
          ap (λ n. and_then typed_index (λ i w. typed.indexing n i w (λ j. cells.InCell (cell + j)))) long ∙ ready.0 ∙ ap (mapped names b.this (laid_spot names)) (sym whole),
          subst (GivesOnly (IsReal names)) (sym whole) ready.1,
        );
  }

  -- an index of what is no array
  pub no_element_place : (base index : Expr) (at : ℕ) → array_in scope base ≡ None → StandsAs scope order (tree.Index base index at) None
  no_element_place base index at is =
      record { same = λ b w. ap (λ a. element_spot (source_setting b scope) a (value_of (source_setting b scope) b.call index) w) is }

  -- a member of a message

  member_whole : (b : Beside scope.names order) (base : Expr) (field : Field) (at : ℕ) (held : Held) (w : World source.Memory) → message_in scope base ≡ Some held →
      spot_of (source_setting b scope) b.call (tree.Member base field at) w ≡ field_spot (source_setting b scope) b.call field held w
  member_whole b base field at held w is = ap (λ m. part_spot m (field_spot (source_setting b scope) b.call field) w) is

  pub field_place : (base : Expr) (name : Text) (at here message : ℕ) (held : Held) (field : MessageField) → message_in scope base ≡ Some held →
      member_named (signals_of held) name ≡ IsField field → (AreDistinct scope.names.variables → message ≡ message_slot scope.names held) →
      StandsAs scope order (tree.Member base (Named name at) here) (Some (place_of_field message field))
  field_place base name at here message held field is member where_ = record {
    same = λ b w.
        let names = scope.names in
        let whole : spot_of (source_setting b scope) b.call (tree.Member base (Named name at) here) w ≡ Gives (InField held field) w =
        member_whole b base (Named name at) here held w is ∙ ap (λ m. Gives (spot_of_member held m) w) member in (
          place field b w ∙ ap (λ n. Gives (laid_field n field) (laid names b.this w)) (where_ b.plain.distinct) ∙ ap (mapped names b.this (laid_spot names)) (sym whole),
          subst (GivesOnly (IsReal names)) (sym whole) (message_named scope base held is),
        );
  }
    where
      place : (f : MessageField) (b : Beside scope.names order) (w : World source.Memory) →
          typed.spot_of (typed_setting b) b.typed_call (place_of_field message f) (laid scope.names b.this w) ≡ Gives (laid_field message f) (laid scope.names b.this w)
      place Id b w = refl
      place Dlc b w = refl
      place Rtr b w = refl
      place Can b w = refl
      place Dir b w = refl
      place Time b w = refl

  pub signal_place : (base : Expr) (name : Text) (at here message : ℕ) (held : Held) (layout : Layout) → message_in scope base ≡ Some held →
      member_named (signals_of held) name ≡ IsSignal layout → (AreDistinct scope.names.variables → message ≡ message_slot scope.names held) →
      StandsAs scope order (tree.Member base (Named name at) here) (Some (Signal message layout))
  signal_place base name at here message held layout is member where_ = record {
    same = λ b w.
        let names = scope.names in
        let whole : spot_of (source_setting b scope) b.call (tree.Member base (Named name at) here) w ≡ Gives (InSignal held layout) w =
        member_whole b base (Named name at) here held w is ∙ ap (λ m. Gives (spot_of_member held m) w) member in (
          ap (λ n. Gives (cells.InSignal n layout) (laid names b.this w)) (where_ b.plain.distinct) ∙ ap (mapped names b.this (laid_spot names)) (sym whole),
          subst (GivesOnly (IsReal names)) (sym whole) (message_named scope base held is),
        );
  }

  -- a member that is neither
  pub no_member_place : (base : Expr) (name : Text) (at here : ℕ) (held : Held) → message_in scope base ≡ Some held →
      spot_of_member held (member_named (signals_of held) name) ≡ Nowhere → StandsAs scope order (tree.Member base (Named name at) here) None
  no_member_place base name at here held is none =
      record { same = λ b w. member_whole b base (Named name at) here held w is ∙ ap (λ spot. Gives spot w) none }

  -- a member of what is no message
  pub no_message_place : (base : Expr) (field : Field) (at : ℕ) → message_in scope base ≡ None → StandsAs scope order (tree.Member base field at) None
  no_message_place base field at is = record { same = λ b w. ap (λ m. part_spot m (field_spot (source_setting b scope) b.call field) w) is }

  -- payload bytes of a message
  pub bytes_place : (base : Expr) (k : Kind) (index : Expr) (at here message : ℕ) (held : Held) (i : TExpr) → message_in scope base ≡ Some held →
      (AreDistinct scope.names.variables → message ≡ message_slot scope.names held) → GivesAs scope order index i →
      StandsAs scope order (tree.Member base (tree.Bytes k index at) here) (Some (Bytes message k i))
  bytes_place base k index at here message held i is where_ f = record {
    same = λ b w.
        let names = scope.names in
        let s = source_setting b scope in
        let run = value_of s b.call index w in
        let whole : spot_of s b.call (tree.Member base (tree.Bytes k index at) here) w ≡ and_then run (λ i w. indexing (9 - size k) i w (InBytes held k)) =
        member_whole b base (tree.Bytes k index at) here held w is in
        let ready = index_same names b.this (IsReal names) (9 - size k) run _ (InBytes held k) (cells.InBytes message k) (f.same b w)
        (λ j. ap (λ n. cells.InBytes n k j) (where_ b.plain.distinct)) (λ j less. (message_named scope base held is, within k j less)) in
        (ready.0 ∙ ap (mapped names b.this (laid_spot names)) (sym whole), subst (GivesOnly (IsReal names)) (sym whole) ready.1);
  }
    where
      within : (k : Kind) (j : ℕ) → j < 9 - size k → j + size k ≤ 8
      within k j less = omega (arith, less)

  -- an expression that is no place
  pub no_place : (e : Expr) → ((b : Beside scope.names order) (w : World source.Memory) → spot_of (source_setting b scope) b.call e w ≡ Gives Nowhere w) → StandsAs scope order e None
  no_place e f = record { same = f }

-- ---- places that are stored to

both_given : {A : Type 0} (P Q : A → Type 0) (r : Run source.Memory A) → GivesOnly P r → GivesOnly Q r → GivesOnly (λ a. P a × Q a) r
both_given P Q (Gives a w) p q = (p, q)
both_given P Q (Fails o w) p q = tt

-- whatever an index leads to is so
pub indexed_only : (P : source.Spot → Type 0) (len : ℕ) (r : Run source.Memory ℤ) (spot : ℕ → source.Spot) → ((j : ℕ) → P (spot j)) →
    GivesOnly P (and_then r (λ i w. indexing len i w spot))
indexed_only P len (Fails o w) spot h = tt
indexed_only P len (Gives (negsuc i) w) spot h = tt
indexed_only P len (Gives (pos i) w) spot h = go (nat_lt i len)
  where
    go : (b : Bool) → GivesOnly P (if b then Gives (spot i) w else Fails (Trapped Index) w)
    go true = h i
    go false = tt

open_number : (v : Variable) (form : Form) → is_open_number form ≡ true → IsOpen (spot_of_form v form)
open_number v (Number k fixed) h = tt
open_number v (Array k fixed given) h = absurd (let e : false ≡ true = h in cc)
open_number v (Message type_) h = absurd (let e : false ≡ true = h in cc)
open_number v (Timer unit) h = absurd (let e : false ≡ true = h in cc)
open_number v Misfit h = absurd (let e : false ≡ true = h in cc)

open_name : (o : Option Variable) → option_map_or (λ v. is_open_number v.form) o false ≡ true → IsOpen (spot_of_name o)
open_name None h = absurd (let e : false ≡ true = h in cc)
open_name (Some v) h = open_number v v.form h

open_element : (s : source.Setting) (o : Option Variable) (index : Computes source.Memory) (w : World source.Memory) → option_map_or (λ v. is_open_array v.form) o false ≡ true →
    GivesOnly IsOpen (element_spot s o index w)
open_element s None index w h = absurd (let e : false ≡ true = h in cc)
open_element s (Some v) index w h = indexed_only IsOpen (elements_of s.scope.names v) (index w) (InElement (kind_of_elements v.form) v) (λ j. tt)

open_member : (held : Held) (m : NamedMember) → is_variable held ≡ true → is_open_member m ≡ true → IsOpen (spot_of_member held m)
open_member held (IsField f) v h = (v, h)
open_member held (IsSignal layout) v h = v
open_member held IsUnusable v h = absurd (let e : false ≡ true = h in cc)
open_member held (IsUnknown by_name) v h = absurd (let e : false ≡ true = h in cc)

open_part : (s : source.Setting) (call : _) (field : Field) (o : Option Held) (w : World source.Memory) → option_map_or (is_open_part field) o false ≡ true →
    GivesOnly IsOpen (part_spot o (field_spot s call field) w)
open_part s call field None w h = absurd (let e : false ≡ true = h in cc)
open_part s call field (Some (HeldFrame signals)) w h = absurd (let e : false ≡ true = h in cc)
open_part s call (Named name at) (Some (HeldVariable v signals)) w h = open_member (HeldVariable v signals) (member_named signals name) refl h
open_part s call (tree.Bytes k index at) (Some (HeldVariable v signals)) w h =
    indexed_only IsOpen (9 - size k) (value_of s call index w) (InBytes (HeldVariable v signals) k) (λ j. refl)

-- a place that is assignable can be stored to
open_place : (s : source.Setting) (call : _) (e : Expr) (w : World source.Memory) → is_number_place s.scope e ≡ true → GivesOnly IsOpen (spot_of s call e w)
open_place s call (tree.Paren inner at) w h = open_place s call inner w h
open_place s call (expr.Name name at) w h = open_name (means s.scope name at) h
open_place s call (tree.Index base index at) w h = open_element s (array_in s.scope base) (value_of s call index) w h
open_place s call (tree.Member base field at) w h = open_part s call field (message_in s.scope base) w h
open_place s call e w h = absurd (let f : false ≡ true = h in cc)

module _ (scope : Scope) (order : List ℕ) where
  -- a place that is assignable
  pub assignable : (e : Expr) (place : Option Place) → is_number_place scope e ≡ true → StandsAs scope order e place → AssignsAs scope order e place
  assignable e None is f = record {
    same = λ b w. ap (λ t. if t then spot_of (source_setting b scope) b.call e w else Gives Nowhere w) is ∙ f.same b w;
  }
  assignable e (Some place) is f = record {
    same = λ b w.
        let s = source_setting b scope in
        let whole : place_spot s e (spot_of s b.call e) w ≡ spot_of s b.call e w = ap (λ t. if t then spot_of s b.call e w else Gives Nowhere w) is in (
          (f.same b w).0 ∙ ap (mapped scope.names b.this (laid_spot scope.names)) (sym whole),
          subst (GivesOnly (λ spot. IsReal scope.names spot × IsOpen spot)) (sym whole)
              (both_given (IsReal scope.names) IsOpen (spot_of s b.call e w) (f.same b w).1 (open_place s b.call e w is)),
        );
  }

  -- an expression that is not assignable
  pub not_assignable : (e : Expr) → is_number_place scope e ≡ false → AssignsAs scope order e None
  not_assignable e is =
      record { same = λ b w. ap (λ t. if t then spot_of (source_setting b scope) b.call e w else Gives Nowhere w) is }
