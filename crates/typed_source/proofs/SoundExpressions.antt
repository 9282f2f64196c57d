-- The typed tree of an expression that is a number is sound, where the tables are there and each number,
-- assignment and call in it can be made.
use mathlib.Core.Former.{Count}
use Rattle.std.proofs.Common.{◌≡◌, ℕ, zero, suc, ◌+◌, ◌-◌, ◌^◌, ◌≤◌, ◌<◌, min, Bool, true, false, not, ◌&&◌, List, [], ◌∷◌, length, Option, Some, None, refl, sym, ap, ◌∙◌, subst, arith, length-drop}
use Rattle.std.specs.Prelude.{◌==◌, ◌||◌, ℤ, pos, negsuc, All, IsSome, IsSomeAnd, drop, if◌then◌else◌, nat_le, take, unwrap_or}
use Rattle.std.specs.List.{list_all, list_any}
use Rattle.std.specs.Option.{option_and_then, option_map_or}
use Rattle.std.proofs.lemmas.Bool.{eqb-true, leb-true, leb-false}
use Rattle.std.proofs.lemmas.Int.{ints}
use Rattle.std.proofs.lemmas.List.{length-take}
use Rattle.std.proofs.lemmas.Option.{slice_get_within}
use Rattle.int_kinds.specs.declared.kinds.Kind.{Kind}
use Rattle.int_kinds.specs.declared.kinds.Kind.TheVariants as kind
use Rattle.int_kinds.specs.declared.operators.BinOp.{BinOp}
use Rattle.int_kinds.specs.declared.operators.BinOp.TheVariants as op
use Rattle.int_kinds.specs.declared.operators.UnOp.{UnOp}
use Rattle.int_kinds.specs.declared.operators.UnOp.TheVariants as prefix
use Rattle.int_kinds.specs.Kind.{IsNumber, join, width}
use Rattle.signal_codec.specs.declared.layout.Layout.{Layout}
use Rattle.signal_codec.specs.Signal.{IsUsable, bit_numbers}
use Rattle.message_cells.specs.Message.{IsMessage}
use Rattle.texts.specs.declared.text.Text.{Text}
use Rattle.dbc_reader.specs.declared.signals.DbcSignal.{DbcSignal}
use Rattle.capl_tree.specs.declared.expr.Expr.{Expr, Row_of-Expr, end_of-Expr, more_of-Expr, items-the_row-Expr}
use Rattle.capl_tree.specs.declared.expr.Expr.TheVariants as expr
use Rattle.capl_tree.specs.declared.expr.Field.{Field}
use Rattle.capl_tree.specs.declared.expr.Field.TheVariants.{Named}
use Rattle.capl_tree.specs.Forms as tree
use Rattle.typed_tree.specs.declared.expression.Place.{Place}
use Rattle.typed_tree.specs.declared.expression.TExpr.{TExpr, items-the_row-TExpr}
use Rattle.typed_tree.specs.declared.expression.TExpr.TheVariants.{Const, Call', Active}
use Rattle.typed_tree.specs.declared.program.TFun.{TFun}
use Rattle.typed_tree.specs.declared.program.Typed.{Typed}
use Rattle.typed_tree.specs.Forms as form
use Rattle.typed_tree.specs.SoundExpression.{AreSoundArguments, HasSoundIndex, IsNoWider, IsOperation, IsPrefixOperation, IsSoundExpr, PlaceExists}
use Rattle.capl_meaning.specs.declared.builtin.Builtin.{Builtin}
use Rattle.capl_meaning.specs.declared.builtin.Builtin.TheVariants as builtin
use Rattle.capl_meaning.specs.declared.field.MessageField.{MessageField}
use Rattle.capl_meaning.specs.declared.field.MessageField.TheVariants.{Id, Dlc, Rtr, Can, Dir, Time}
use Rattle.capl_meaning.specs.declared.sort.Sort.{Sort}
use Rattle.capl_meaning.specs.declared.sort.Sort.TheVariants as sort
use Rattle.capl_meaning.specs.Variable.{Form, Number, Array, Message, Timer, Misfit, Variable, identifier}
use Rattle.capl_meaning.specs.Names.{Callee, Function, OfLanguage, OfProgram, Scope, ThisForm, NoThis, ThisFrame, ThisKey, Unknown, callee, direction, means}
use Rattle.capl_meaning.specs.Format.{first_text}
use Rattle.capl_meaning.specs.Message.{Held, HeldFrame, HeldVariable, NamedMember, IsField, IsSignal, IsUnusable, IsUnknown, array_by, array_in, can_be_used, field_named, is_number_place, is_open_number, is_usable, member_named, member_of_signal, member_of_signals, message_in, signal_named, signals_of}
use Rattle.capl_meaning.specs.Sort.{is_number, is_recursive, kind_in, number_from, sort_given, sort_of, sort_of_assignment, sort_of_binary, sort_of_call, sort_of_choice, sort_of_element, sort_of_form, sort_of_function, sort_of_member, sort_of_name, sort_of_part, sort_of_prefix, sort_of_step, sorts_of}
use Rattle.capl_meaning.specs.Constant.{array_length, constant_at, elements_of, length_by, scope_of}
use Rattle.capl_meaning.specs.Store.{variable_key, timer_number}
use Rattle.capl_meaning.specs.Expression.{timer_in}
use Rattle.typed_laws.specs.Laid.{HasForm, IsHeld, message_slot, slot}
use Rattle.typed_laws.proofs.Places.{array_named, means_among, message_named}
use Rattle.typed_laws.proofs.Timers.{timer_named}
use Rattle.typed_source.specs.Expression.{assigned, expression_of, loaded, of_builtin, of_call, of_name, of_this, operation, place_in, place_of, place_of_element, place_of_form, place_of_member, place_of_name, place_of_part, row_of, stepping, storing, updating}
use Rattle.typed_source.specs.Sound.{CanBeMade, CanFieldBeMade, CanRowBeMade, HasTables, IsOfNumber, IsSmall}
use Rattle.typed_source.proofs.Shown.{Names as Named_as, names}

-- ---- sorts

both_numbers : (operator : BinOp) (a b : Sort) → IsOfNumber (sort_of_binary operator a b) → IsOfNumber a × IsOfNumber b
both_numbers operator (sort.Number a) (sort.Number b) h = (tt, tt)
both_numbers operator a b h = elim h [ ]

three_numbers : (a b c : Sort) → IsOfNumber (sort_of_choice a b c) → IsOfNumber a × IsOfNumber b × IsOfNumber c
three_numbers (sort.Number a) (sort.Number b) (sort.Number c) h = (tt, tt, tt)
three_numbers a b c h = elim h [ ]

number_before : (a : Sort) (k : Kind) → IsOfNumber (number_from a k) → IsOfNumber a
number_before (sort.Number j) k h = tt
number_before a k h = elim h [ ]

element_numbers : (a b : Sort) → IsOfNumber (sort_of_element a b) → (k : Kind) × (a ≡ sort.Array k) × IsOfNumber b
element_numbers (sort.Array k) (sort.Number j) h = (k, refl, tt)
element_numbers a b h = elim h [ ]

assigned_numbers : (operator : Option BinOp) (place message : Bool) (a b : Sort) → IsOfNumber (sort_of_assignment operator place message a b) → (place ≡ true) × IsOfNumber a × IsOfNumber b
assigned_numbers None place true sort.Message sort.Message h = elim h [ ]
assigned_numbers operator true message (sort.Number k) (sort.Number j) h = (refl, tt, tt)
assigned_numbers operator place message a b h = elim h [ ]

stepped_number : (place : Bool) (a : Sort) → IsOfNumber (sort_of_step place a) → (place ≡ true) × IsOfNumber a
stepped_number true a h = (refl, h)
stepped_number false a h = elim h [ ]

-- ---- numbers

IsNumber-pos : (n : ℕ) → n < 2 ^ 64 → IsNumber (pos n)
IsNumber-pos n h = record { at_least = omega (arith, ints); below = omega (arith, ints, h) }

IsNumber-value : (n : ℕ) (extended : Bool) → IsSmall (Some n) extended → IsNumber (pos (identifier n extended))
IsNumber-value n false h = IsNumber-pos n h
IsNumber-value n true h = IsNumber-pos (2 ^ 31 + n) (omega (arith, h))

IsNumber-direction : (name : List ℕ) → IsNumber (option_map_or pos (direction name) (pos 0))
IsNumber-direction name = go _ _
  where
    go : (a b : Bool) → IsNumber (option_map_or pos (if a then Some 0 else if b then Some 1 else None) (pos 0))
    go true b = IsNumber-pos 0 (omega arith)
    go false true = IsNumber-pos 1 (omega arith)
    go false false = IsNumber-pos 0 (omega arith)

IsNumber-elements : (all : _) (v : Variable) → IsNumber (pos (elements_of all v))
IsNumber-elements all v = IsNumber-pos (elements_of all v) (few v.form)
  where
    within : (n : ℤ) (m : ℕ) → array_length n ≡ Some m → m < 2 ^ 64
    within (pos n) m e = go (nat_le 1 n) (nat_le n 1000000) refl e
      where
        go : (a b : Bool) → nat_le n 1000000 ≡ b → (if a && b then Some n else None) ≡ Some m → m < 2 ^ 64
        go false b h e = absurd (let f : None ≡ Some m = e in cc)
        go true false h e = absurd (let f : None ≡ Some m = e in cc)
        go true true h e = let same : n ≡ m = let f : Some n ≡ Some m = e in cc in omega (arith, same, leb-true n 1000000 h)
    within (negsuc n) m e = absurd (let f : None ≡ Some m = e in cc)

    some : (o : Option ℤ) → unwrap_or (option_and_then array_length o) 0 < 2 ^ 64
    some None = omega arith
    some (Some n) = go (array_length n) refl
      where
        go : (o : Option ℕ) → array_length n ≡ o → unwrap_or o 0 < 2 ^ 64
        go None e = omega arith
        go (Some m) e = within n m e

    few : (f : Form) → length_by (scope_of all v) v.token f < 2 ^ 64
    few (Array k fixed size) = some (constant_at (scope_of all v) v.token size)
    few other = omega arith

-- a kind is no wider than its join with long
no_wider : (k : Kind) → width k ≤ width (join k kind.Long)
no_wider kind.Byte = omega arith
no_wider kind.Word = omega arith
no_wider kind.Dword = omega arith
no_wider kind.Qword = omega arith
no_wider kind.Int = omega arith
no_wider kind.Long = omega arith
no_wider kind.Int64 = omega arith
no_wider kind.Char = omega arith

-- a message has 14 cells
message_long : (kinds : List Kind) (at : ℕ) → IsMessage kinds at → at + 13 < length kinds
message_long kinds at h =
    let a : length (take 14 (drop at kinds)) ≡ 14 = ap length h in
    let b : length (take 14 (drop at kinds)) ≡ min 14 (length (drop at kinds)) = length-take 14 (drop at kinds) in
    let c : length (drop at kinds) ≡ length kinds - at = length-drop at kinds in
    omega (arith, a, b, c)

-- an array that is named is of the sort that its form says
array_sort : (s : Scope) (e : Expr) (v : Variable) → array_in s e ≡ Some v → sort_of s e ≡ sort_of_form v.form
array_sort s (tree.Paren inner at) v h = array_sort s inner v h
array_sort s (expr.Name name at) v h = go (means s name at) h
  where
    by : (u : Variable) (form : Form) → array_by form u ≡ Some v → u ≡ v
    by u (Array k fixed size) e = let f : Some u ≡ Some v = e in cc
    by u other e = absurd (let f : None ≡ Some v = e in cc)

    go : (o : Option Variable) → option_and_then (λ v. array_by v.form v) o ≡ Some v → sort_of_name name o ≡ sort_of_form v.form
    go None h = absurd (let f : None ≡ Some v = h in cc)
    go (Some u) h = ap (λ (x : Variable). sort_of_form x.form) (by u u.form h)
array_sort s e v h = absurd (let f : None ≡ Some v = h in cc)

-- ---- signals

all_below : (xs : List ℕ) → list_any (λ number. nat_le 64 number) xs ≡ false → All (λ number. number < 64) xs
all_below [] e = λ k d less. absurd (omega (arith, less))
all_below (x ∷ xs) e = parts (nat_le 64 x) refl e (λ f. all_below xs f)
  where
    parts : (b : Bool) → nat_le 64 x ≡ b → b || list_any (λ number. nat_le 64 number) xs ≡ false → (list_any (λ number. nat_le 64 number) xs ≡ false → All (λ number. number < 64) xs) → All (λ number. number < 64) (x ∷ xs)
    parts true is e further k d less = absurd (let f : true ≡ false = e in cc)
    parts false is e further zero d less = leb-false 64 x is
    parts false is e further (suc k) d less = further e k d (omega (arith, less))

usable : (l : Layout) → is_usable l ≡ true → IsUsable l
usable l h = go (nat_le 1 l.len) (nat_le l.len 64) (list_any (λ number. nat_le 64 number) (bit_numbers l)) refl refl refl h
  where
    go : (a b c : Bool) → nat_le 1 l.len ≡ a → nat_le l.len 64 ≡ b → list_any (λ number. nat_le 64 number) (bit_numbers l) ≡ c → a && (b && not c) ≡ true → IsUsable l
    go true true false p q r h = record { at_least_one = leb-true 1 l.len p; at_most_64 = leb-true l.len 64 q; in_payload = all_below (bit_numbers l) r }
    go true true true p q r h = absurd (let f : false ≡ true = h in cc)
    go true false c p q r h = absurd (let f : false ≡ true = h in cc)
    go false b c p q r h = absurd (let f : false ≡ true = h in cc)

-- a signal that is a member can be used
usable_member : (signals : Option (List DbcSignal)) (name : List ℕ) (l : Layout) → member_named signals name ≡ IsSignal l → IsUsable l
usable_member signals name l e = field (field_named name) e
  where
    parted : (signal : DbcSignal) (b : Bool) → can_be_used signal ≡ b → (if b then IsSignal signal.layout else IsUnusable) ≡ IsSignal l → IsUsable l
    parted signal false is e = absurd (let f : IsUnusable ≡ IsSignal l = e in cc)
    parted signal true is e =
        let same : signal.layout ≡ l = let f : IsSignal signal.layout ≡ IsSignal l = e in cc in
        subst IsUsable same (usable signal.layout (first (is_usable signal.layout) (not signal.float) is))
      where
        first : (a b : Bool) → a && b ≡ true → a ≡ true
        first true b h = refl
        first false b h = absurd (let f : false ≡ true = h in cc)

    found : (o : Option DbcSignal) → member_of_signal o ≡ IsSignal l → IsUsable l
    found None e = absurd (let f : IsUnknown true ≡ IsSignal l = e in cc)
    found (Some signal) e = parted signal (can_be_used signal) refl e

    among : (o : Option (List DbcSignal)) → member_of_signals o name ≡ IsSignal l → IsUsable l
    among None e = absurd (let f : IsUnknown false ≡ IsSignal l = e in cc)
    among (Some all) e = found (signal_named all name) e

    field : (o : Option MessageField) → option_map_or IsField o (member_of_signals signals name) ≡ IsSignal l → IsUsable l
    field None e = among signals e
    field (Some f) e = absurd (let g : IsField f ≡ IsSignal l = e in cc)

module _ (typed : Typed) (number : ℕ) where
  -- ---- nodes

  sound_const : (n : ℤ) → IsNumber n → IsSoundExpr typed number (Const n)
  sound_const n h = assumption h

  sound_zero : IsSoundExpr typed number (Const (pos 0))
  sound_zero = sound_const (pos 0) (IsNumber-pos 0 (omega arith))

  -- a place of a kind that is there
  record SoundAt (o : Option Place) (k : Kind) : Type 0 where
    place : Place
    is : o ≡ Some place
    exists : PlaceExists typed place
    index : HasSoundIndex typed number place
    wide : IsNoWider typed place (join k kind.Long)

  sound_load : (o : Option Place) (k : Kind) → SoundAt o k → IsSoundExpr typed number (loaded o)
  sound_load o k at = subst (λ o. IsSoundExpr typed number (loaded o)) (sym at.is)
      (assumption at.exists, at.index)

  sound_store : (o : Option Place) (k : Kind) (t : TExpr) → SoundAt o k → IsSoundExpr typed number t → IsSoundExpr typed number (storing o t)
  sound_store o k t at h = subst (λ o. IsSoundExpr typed number (storing o t)) (sym at.is)
      (assumption at.exists, at.index, h)

  sound_update : (operator : BinOp) (j : Kind) (o : Option Place) (k : Kind) (t : TExpr) → IsOperation operator → SoundAt o k → IsSoundExpr typed number t → IsSoundExpr typed number (updating operator j o t)
  sound_update operator j o k t is at h = subst (λ o. IsSoundExpr typed number (updating operator j o t)) (sym at.is)
      (assumption (at.exists, is), at.index, h)

  sound_step : (up post : Bool) (o : Option Place) (k : Kind) → SoundAt o k → IsSoundExpr typed number (stepping k up post o)
  sound_step up true o k at = subst (λ o. IsSoundExpr typed number (stepping k up true o)) (sym at.is)
      (assumption (at.exists, at.wide), at.index)
  sound_step up false o k at = subst (λ o. IsSoundExpr typed number (stepping k up false o)) (sym at.is)
      (assumption at.exists, at.index)

  sound_operation : (operator : BinOp) (k : Kind) (t u : TExpr) → IsSoundExpr typed number t → IsSoundExpr typed number u → IsSoundExpr typed number (operation operator k t u)
  sound_operation op.AndAlso k t u f g = (assumption, f, g)
  sound_operation op.OrElse k t u f g = (assumption, f, g)
  sound_operation operator k t u f g = (assumption, f, g)

  sound_convert : (k : Kind) (t : TExpr) → IsSoundExpr typed number t → IsSoundExpr typed number (form.Convert k t)
  sound_convert k t f = (assumption, f)

  sound_choice : (t u v : TExpr) → IsSoundExpr typed number t → IsSoundExpr typed number u → IsSoundExpr typed number v → IsSoundExpr typed number (form.Cond t u v)
  sound_choice t u v f g h = (assumption, f, g, h)

  module _ (s : Scope) (order : List ℕ) (tables : HasTables s.names typed) where
    -- ---- names

    at_form : (v : Variable) (f : Form) → HasForm s.names v f → IsOfNumber (sort_of_form f) → SoundAt (place_of_form s.names v f) (kind_in (sort_of_form f))
    at_form v (Number k fixed) real h = record { place = _; is = refl; exists = tables.numbers v k fixed real; index = tt; wide = tt }
    at_form v other real h = elim h [ ]

    sound_name : (name : Text) (at : ℕ) (o : Option Variable) → means s name at ≡ o → IsOfNumber (sort_of_name name o) → IsSoundExpr typed number (of_name s.names name o)
    sound_name name at None is h = sound_const _ (IsNumber-direction name)
    sound_name name at (Some v) is h = sound_load _ _ (at_form v v.form (record { among = means_among s name at v is; form_is = refl }) h)

    sound_this : (f : ThisForm) → IsSoundExpr typed number (of_this f)
    sound_this ThisKey = (assumption there, tt)
      where
        there : 14 < length typed.cells
        there = slice_get_within typed.cells 14 kind.Char tables.event.key
    sound_this NoThis = sound_zero
    sound_this (ThisFrame signals) = sound_zero

    -- ---- elements and members

    at_element : (base : Expr) (index : Sort) (t : TExpr) (o : Option Variable) → array_in s base ≡ o → IsOfNumber (sort_of_element (sort_of s base) index) → (IsOfNumber index → IsSoundExpr typed number t) →
        SoundAt (place_of_element s.names o t) (kind_in (sort_of_element (sort_of s base) index))
    at_element base index t None is h f =
        let array = element_numbers (sort_of s base) index h in
        let named = subst (Named_as s base) array.1 (names s base) in
        absurd (let e : None ≡ Some named.0 = sym is ∙ named.1 in cc)
    at_element base index t (Some v) is h f =
        let array = array_named s base v is in
        let table = tables.arrays v array.kind array.fixed array.size_given array.form in
        let given = element_numbers (sort_of s base) index h in
        let same : sort_of s base ≡ sort.Array array.kind = array_sort s base v is ∙ ap sort_of_form array.form.form_is in
        record {
          place = form.Elem (slot s.names (variable_key v)) (elements_of s.names v) t;
          is = refl;
          exists = table.0;
          index = f given.2;
          wide = subst (λ k. width k ≤ width (join (kind_in (sort_of_element (sort_of s base) index)) kind.Long)) (sym table.1)
              (subst (λ g. width array.kind ≤ width (join (kind_in (sort_of_element g index)) kind.Long)) (sym same) (element_wide array.kind index given.2));
        }
      where
        element_wide : (k : Kind) (index : Sort) → IsOfNumber index → width k ≤ width (join (kind_in (sort_of_element (sort.Array k) index)) kind.Long)
        element_wide k (sort.Number j) h = no_wider k
        element_wide k index h = elim h [ ]

    held_message : (base : Expr) (held : Held) → IsHeld s.names held → IsMessage typed.cells (message_slot s.names held)
    held_message base (HeldFrame signals) h = tables.event.message
    held_message base (HeldVariable v signals) h = tables.messages v h.0 h.1

    at_member : (at : ℕ) (k : Kind) (signals : Option (List DbcSignal)) (name : List ℕ) → IsMessage typed.cells at → (m : NamedMember) → member_named signals name ≡ m → IsOfNumber (sort_of_member m) → SoundAt (place_of_member at m) k
    at_member at k signals name there (IsField Id) is h = record { place = _; is = refl; exists = (omega arith, there); index = tt; wide = tt }
    at_member at k signals name there (IsField Dlc) is h = record { place = _; is = refl; exists = (omega arith, there); index = tt; wide = tt }
    at_member at k signals name there (IsField Rtr) is h = record { place = _; is = refl; exists = (omega arith, there); index = tt; wide = tt }
    at_member at k signals name there (IsField Can) is h = record { place = _; is = refl; exists = (omega arith, there); index = tt; wide = tt }
    at_member at k signals name there (IsField Dir) is h = record { place = _; is = refl; exists = let e : at + 13 < length typed.cells = message_long typed.cells at there in omega (arith, e); index = tt; wide = tt }
    at_member at k signals name there (IsField Time) is h = record { place = _; is = refl; exists = let e : at + 13 < length typed.cells = message_long typed.cells at there in omega (arith, e); index = tt; wide = tt }
    at_member at k signals name there (IsSignal layout) is h = record { place = _; is = refl; exists = (usable_member signals name layout is, there); index = tt; wide = tt }
    at_member at k signals name there IsUnusable is h = elim h [ ]
    at_member at k signals name there (IsUnknown by_name) is h = elim h [ ]

    -- ---- calls

    sound_active : (e : Expr) (o : Option Variable) → timer_in s e ≡ o → IsSoundExpr typed number (option_map_or (λ v. Active (timer_number s.names v)) o (Const (pos 0)))
    sound_active e None is = sound_zero
    sound_active e (Some v) is =
        let real = timer_named s e v is in
        assumption (tables.timers v real.0 real.1)

    sound_count : (o : Option Variable) → IsSoundExpr typed number (option_map_or (λ v. Const (pos (elements_of s.names v))) o (Const (pos 0)))
    sound_count None = sound_zero
    sound_count (Some v) = sound_const _ (IsNumber-elements s.names v)

    sound_builtin : (b : Builtin) (arguments : List Expr) → IsSoundExpr typed number (of_builtin s b arguments)
    sound_builtin builtin.IsTimerActive [] = sound_zero
    sound_builtin builtin.IsTimerActive (e ∷ []) = sound_active e (timer_in s e) refl
    sound_builtin builtin.IsTimerActive (e ∷ other ∷ rest) = sound_zero
    sound_builtin builtin.ElCount [] = sound_zero
    sound_builtin builtin.ElCount (e ∷ []) = sound_count (array_in s e)
    sound_builtin builtin.ElCount (e ∷ other ∷ rest) = sound_zero
    sound_builtin builtin.TimeNow arguments = assumption
    sound_builtin other arguments = sound_zero

    -- what the sort of a call of a function of the program says
    called_sort : (f : Function) (sorts : List Sort) → IsOfNumber (sort_of_function s f sorts) → (length sorts ≡ length f.parameters) × (list_all is_number sorts ≡ true) × IsOfNumber (sort_given f.gives)
    called_sort f sorts h = go (length sorts == length f.parameters) (list_all is_number sorts) (not (is_recursive s f)) refl refl h
      where
        go : (a b c : Bool) → length sorts == length f.parameters ≡ a → list_all is_number sorts ≡ b → IsOfNumber (if a && (b && c) then sort_given f.gives else sort.Bad) →
            (length sorts ≡ length f.parameters) × (list_all is_number sorts ≡ true) × IsOfNumber (sort_given f.gives)
        go true true true p q h = (eqb-true (length sorts) (length f.parameters) p, q, h)
        go true true false p q h = elim h [ ]
        go true false c p q h = elim h [ ]
        go false b c p q h = elim h [ ]

    row_long : {m : Count} (row : Row_of-Expr m) → length (items-the_row-TExpr m (row_of s order row)) ≡ length (sorts_of s row)
    row_long end_of-Expr = refl
    row_long (more_of-Expr first rest) = ap suc (row_long rest)

    gives_number : (gives given : Option Kind) → gives ≡ given → IsOfNumber (sort_given given) → IsSome gives
    gives_number gives None e h = elim h [ ]
    gives_number gives (Some k) e h = subst (λ o. IsSome o) (sym e) (gives_one k)
      where
        gives_one : (k : Kind) → IsSome (Some k)
        gives_one k = refl

    of_number : (g : Sort) → is_number g ≡ true → IsOfNumber g
    of_number (sort.Number k) h = tt
    of_number other h = absurd (let f : false ≡ true = h in cc)

    prefix_number : (operator : UnOp) (place : Bool) (a : Sort) → IsPrefixOperation operator → IsOfNumber (sort_of_prefix operator place a) → IsOfNumber a
    prefix_number prefix.Up place a is h = elim is [ ]
    prefix_number prefix.Down place a is h = elim is [ ]
    prefix_number prefix.Not place a is h = number_before a kind.Long h
    prefix_number other place a is h = number_before a _ h

    -- a call, by what is called
    sound_call : (c0 c : Callee) (text : Option (List ℕ)) (arguments : List Expr) (called : ℕ → TExpr) (sorts : List Sort) → c0 ≡ c → IsOfNumber (sort_of_call s c text sorts) →
        ((f : Function) → c0 ≡ OfProgram f → IsOfNumber (sort_of_function s f sorts) → IsSoundExpr typed number (option_map_or called (place_in order f.number) (Const (pos 0)))) →
        IsSoundExpr typed number (of_call s order c arguments called)
    sound_call c0 (OfLanguage b) text arguments called sorts is h k = sound_builtin b arguments
    sound_call c0 (OfProgram f) text arguments called sorts is h k = k f is h
    sound_call c0 Unknown text arguments called sorts is h k = elim h [ ]

    at_named : (name : Text) (at : ℕ) (o : Option Variable) → means s name at ≡ o → option_map_or (λ v. is_open_number v.form) o false ≡ true → IsOfNumber (sort_of_name name o) →
        SoundAt (place_of_name s.names o) (kind_in (sort_of_name name o))
    at_named name at None is assigned_to h = absurd (let f : false ≡ true = assigned_to in cc)
    at_named name at (Some v) is assigned_to h = at_form v v.form (record { among = means_among s name at v is; form_is = refl }) h

    bytes_wide : (g : Sort) (k : Kind) → IsOfNumber (number_from g k) → width k ≤ width (join (kind_in (number_from g k)) kind.Long)
    bytes_wide (sort.Number j) k h = no_wider k
    bytes_wide g k h = elim h [ ]

    and_both : (a b : Bool) → a && b ≡ true → (a ≡ true) × (b ≡ true)
    and_both true b h = (refl, h)
    and_both false b h = absurd (let f : false ≡ true = h in cc)

    open_place : (e : Expr) → is_number_place s e ≡ true → SoundAt (place_of s order e) (kind_in (sort_of s e)) → SoundAt (assigned (is_number_place s e) (place_of s order e)) (kind_in (sort_of s e))
    open_place e is h = subst (λ b. SoundAt (assigned b (place_of s order e)) (kind_in (sort_of s e))) (sym is) h

    sound_stepped : (up post : Bool) (inner : Expr) → IsOfNumber (sort_of_step (is_number_place s inner) (sort_of s inner)) →
        (is_number_place s inner ≡ true → IsOfNumber (sort_of s inner) → SoundAt (place_of s order inner) (kind_in (sort_of s inner))) →
        IsSoundExpr typed number (stepping (kind_in (sort_of s inner)) up post (assigned (is_number_place s inner) (place_of s order inner)))
    sound_stepped up post inner h at =
        let given = stepped_number (is_number_place s inner) (sort_of s inner) h in
        sound_step up post (assigned (is_number_place s inner) (place_of s order inner)) (kind_in (sort_of s inner)) (open_place inner given.0 (at given.0 given.1))

    -- ---- expressions

    mutual
      -- each expression that is a number
      pub sound : (e : Expr) → IsOfNumber (sort_of s e) → CanBeMade s order typed number e → IsSoundExpr typed number (expression_of s order e)
      sound (expr.Num None extended at) h made = sound_zero
      sound (expr.Num (Some n) extended at) h made = sound_const (pos (identifier n extended)) (IsNumber-value n extended made)
      sound (expr.Char value at) h made = sound_const (pos value) (IsNumber-pos value (omega (arith, made)))
      sound (expr.Str text at) h made = elim h [ ]
      sound (expr.This at) h made = sound_this s.this
      sound (expr.Name name at) h made = sound_name name at (means s name at) refl h
      sound (tree.Paren inner at) h made = sound inner h made
      sound (expr.Call' name shape args at) h made =
          sound_call (callee s.names name) (callee s.names name) (first_text args) (items-the_row-Expr _ args) (λ f. Call' f shape (row_of s order args)) (sorts_of s args) refl h (λ f e given.
          let can = made.0 f e in
          let facts = called_sort f (sorts_of s args) given in
          let long : length (items-the_row-TExpr _ (row_of s order args)) ≡ length f.parameters = row_long args ∙ facts.0 in
          subst (λ o. IsSoundExpr typed number (option_map_or (λ k. Call' k shape (row_of s order args)) o (Const (pos 0)))) (sym can.is_there) (
            record {
              names_exist = tt;
              constant_in_range = tt;
              operation = tt;
              calls_earlier = (can.earlier, subst (λ o. IsSomeAnd o (λ (function : TFun). length (items-the_row-TExpr _ (row_of s order args)) ≡ length function.params)) (sym can.is_function) (long ∙ sym can.same_count));
              few_arguments = subst (λ n. n < 2 ^ 32) (sym long) can.few_parameters;
              can_give_back = tt;
            },
            subst (λ o. IsSomeAnd o (λ (function : TFun). IsSome function.gives)) (sym can.is_function) (gives_number can.function.gives f.gives can.same_gives facts.2),
            sound_row args facts.1 made.1,
          ))
      sound (tree.Index base index at) h made =
          sound_load _ _ (at_element base (sort_of s index) (expression_of s order index) (array_in s base) refl h (λ i. sound index i made))
      sound (tree.Member base field at) h made =
          sound_load _ _ (at_part base field (message_in s base) refl h made)
      sound (tree.Cast k inner at) h made = sound_convert k _ (sound inner (number_before (sort_of s inner) k h) made)
      sound (tree.Unary prefix.Up inner at) h made = sound_stepped true false inner h (λ is i. at_place inner is i made)
      sound (tree.Unary prefix.Down inner at) h made = sound_stepped false false inner h (λ is i. at_place inner is i made)
      sound (tree.Unary operator inner at) h made =
          (assumption, sound inner (prefix_number operator (is_number_place s inner) (sort_of s inner) tt h) made)
      sound (tree.Post up inner at) h made = sound_stepped up true inner h (λ is i. at_place inner is i made)
      sound (tree.Binary operator left right at) h made =
          let given = both_numbers operator (sort_of s left) (sort_of s right) h in
          sound_operation operator _ _ _ (sound left given.0 made.0) (sound right given.1 made.1)
      sound (tree.Cond test one other at) h made =
          let given = three_numbers (sort_of s test) (sort_of s one) (sort_of s other) h in
          sound_choice _ _ _ (sound test given.0 made.0) (sound_convert _ _ (sound one given.1 made.1)) (sound_convert _ _ (sound other given.2 made.2))
      sound (tree.Assign None left right at) h made =
          let given = assigned_numbers None (is_number_place s left) _ (sort_of s left) (sort_of s right) h in
          sound_store _ _ _ (open_place left given.0 (at_place left given.0 given.1 made.1)) (sound right given.2 made.2)
      sound (tree.Assign (Some operator) left right at) h made =
          let given = assigned_numbers (Some operator) (is_number_place s left) _ (sort_of s left) (sort_of s right) h in
          sound_update operator _ _ _ _ made.0 (open_place left given.0 (at_place left given.0 given.1 made.1)) (sound right given.2 made.2)

      -- each place that can be assigned to
      at_place : (e : Expr) → is_number_place s e ≡ true → IsOfNumber (sort_of s e) → CanBeMade s order typed number e → SoundAt (place_of s order e) (kind_in (sort_of s e))
      at_place (tree.Paren inner at) is h made = at_place inner is h made
      at_place (expr.Name name at) is h made = at_named name at (means s name at) refl is h
      at_place (tree.Index base index at) is h made = at_element base (sort_of s index) (expression_of s order index) (array_in s base) refl h (λ i. sound index i made)
      at_place (tree.Member base field at) is h made = at_part base field (message_in s base) refl h made
      at_place e is h made = absurd (let f : false ≡ true = is in cc)

      at_part : (base : Expr) (field : Field) (o : Option Held) → message_in s base ≡ o → IsOfNumber (option_map_or (λ message. sort_of_part s (signals_of message) field) o sort.Bad) → CanFieldBeMade s order typed number field →
          SoundAt (option_and_then (place_of_part s order field) o) (kind_in (option_map_or (λ message. sort_of_part s (signals_of message) field) o sort.Bad))
      at_part base field None is h made = elim h [ ]
      at_part base (Named name at) (Some held) is h made =
          at_member (message_slot s.names held) _ (signals_of held) name (held_message base held (message_named s base held is)) (member_named (signals_of held) name) refl h
      at_part base (tree.Bytes k index at) (Some held) is h made = record {
        place = form.Bytes (message_slot s.names held) k (expression_of s order index);
        is = refl;
        exists = held_message base held (message_named s base held is);
        index = sound index (number_before (sort_of s index) k h) made;
        wide = bytes_wide (sort_of s index) k h;
      }

      -- arguments that are numbers
      sound_row : {m : Count} (row : Row_of-Expr m) → list_all is_number (sorts_of s row) ≡ true → CanRowBeMade s order typed number row → AreSoundArguments typed number (row_of s order row)
      sound_row end_of-Expr h made = tt
      sound_row (more_of-Expr first rest) h made =
          let both = and_both (is_number (sort_of s first)) (list_all is_number (sorts_of s rest)) h in
          (sound first (of_number (sort_of s first) both.0) made.0, sound_row rest both.1 made.1)
