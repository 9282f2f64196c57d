-- The event procedures of a program that breaks no rule are for different events.
use Rattle.std.proofs.Common.{◌≡◌, ◌≢◌, ℕ, suc, ◌+◌, ◌≤◌, ◌<◌, inl, inr, Bool, true, false, not, cond, List, [], ◌∷◌, ◌++◌, length, Option, Some, None, get_or, refl, sym, ap, ◌∙◌, subst, arith}
use Rattle.std.specs.Prelude.{◌==◌, filter, filter_map, find, flat_map, if◌then◌else◌, nat_lt, position, unwrap_or}
use Rattle.std.specs.List.{AllByRecursion, cons_option, position_or_len}
use Rattle.std.specs.Option.{option_map, option_map_or}
use Rattle.std.specs.Str.{bytes_eq}
use Rattle.std.proofs.lemmas.Bool.{ltb-false}
use Rattle.std.proofs.lemmas.Cmp.{nat_eq_equiv}
use Rattle.std.proofs.lemmas.List.Quantifiers.{position-Some}
use Rattle.std.proofs.lemmas.Slice.Eq.{bytes_eq-Decides}
use Rattle.run_effects.specs.declared.event.Selector.{Selector}
use Rattle.dbc_reader.specs.declared.message.DbcMessage.{DbcMessage}
use Rattle.capl_tree.specs.declared.procedure.Sel.{Sel}
use Rattle.typed_tree.specs.declared.program.Typed.{Typed}
use Rattle.capl_meaning.specs.Variable.{Form, Timer, Variable, is_timer}
use Rattle.capl_meaning.specs.Names.{Names, global}
use Rattle.capl_meaning.specs.Statement.{timer_named}
use Rattle.capl_meaning.specs.ProcedureRules.{Channels, ForFrames, ForKey, ForTimer, Purpose, Told, channels_of, collide, keys_on, names_timer, ranges_of, selector_of, selector_place, told_by_selector}
use Rattle.capl_meaning.specs.Store.{same_key, timer_number}
use Rattle.capl_meaning.specs.Inside.Names.{is_global}
use Rattle.capl_meaning.specs.Store as store
use Rattle.typed_laws.specs.Laid.{HasForm, IsAmong}
use Rattle.typed_laws.proofs.Parts.{key_self}
use Rattle.typed_laws.proofs.Places.{found_among}
use Rattle.typed_source.specs.Sound.{HasTables}
use Rattle.sound_programs.proofs.ChannelKeys.{IsFormed, selected_formed}
use Rattle.sound_programs.proofs.Written.{and_both}

-- ---- what is told

-- the selection keys of the frames that a purpose is for
abbrev pub frames_in : Purpose → List Selector
frames_in (ForFrames channels keys) = keys_on channels keys
frames_in _ = []

-- the key
abbrev pub key_in : Purpose → Option (Option ℕ)
key_in (ForKey key) = Some key
key_in _ = None

-- the timer, by its number
abbrev pub timer_in : Names → Purpose → Option ℕ
timer_in names (ForTimer name) = if names_timer names name then Some (timer_named names name) else None
timer_in names _ = None

-- what is made of all that is told
abbrev pub told_as : {X : Type 0} → (Purpose → Option X) → List Told → List X
told_as p all = filter_map (λ (told : Told). p told.purpose) all

-- the selection keys of all that is told
abbrev pub frames_of_told : List Told → List Selector
frames_of_told all = flat_map (λ (told : Told). frames_in told.purpose) all

-- selectors tell what they select, and nothing else
module _ (base : List DbcMessage) (file : ℕ) where
  pub frames_told : (selectors : List Sel) → flat_map (ranges_of base) selectors ≡ frames_of_told (filter_map (told_by_selector base file) selectors)
  frames_told [] = refl
  frames_told (selector ∷ rest) = go (selector_of base selector.what) (frames_told rest)
    where
      go : (o : Option Selector) → flat_map (ranges_of base) rest ≡ frames_of_told (filter_map (told_by_selector base file) rest)
          → option_map_or (keys_on (channels_of selector.chan)) o [] ++ flat_map (ranges_of base) rest
          ≡ frames_of_told (cons_option (option_map (λ keys. record { file = file; token = selector_place selector; purpose = ForFrames (channels_of selector.chan) keys }) o) (filter_map (told_by_selector base file) rest))
      go None e = e
      go (Some keys) e = ap (λ l. keys_on (channels_of selector.chan) keys ++ l) e

  pub others_untold : {X : Type 0} (p : Purpose → Option X) → ((channels : Channels) (keys : Selector) → p (ForFrames channels keys) ≡ None) → (selectors : List Sel) → told_as p (filter_map (told_by_selector base file) selectors) ≡ []
  others_untold p none [] = refl
  others_untold p none (selector ∷ rest) = go (selector_of base selector.what) (others_untold p none rest)
    where
      go : (o : Option Selector) → told_as p (filter_map (told_by_selector base file) rest) ≡ [] →
          told_as p (cons_option (option_map (λ keys. record { file = file; token = selector_place selector; purpose = ForFrames (channels_of selector.chan) keys }) o) (filter_map (told_by_selector base file) rest)) ≡ []
      go None e = e
      go (Some keys) e = ap (λ o. cons_option o (told_as p (filter_map (told_by_selector base file) rest))) (none (channels_of selector.chan) keys) ∙ e

  -- what they tell is formed as what is selected
  pub formed_told : (selectors : List Sel) → AllByRecursion (λ (told : Told). IsFormed told.purpose) (filter_map (told_by_selector base file) selectors)
  formed_told [] = tt
  formed_told (selector ∷ rest) = go (selector_of base selector.what) refl (formed_told rest)
    where
      go : (o : Option Selector) → selector_of base selector.what ≡ o → AllByRecursion (λ (told : Told). IsFormed told.purpose) (filter_map (told_by_selector base file) rest)
          → AllByRecursion (λ (told : Told). IsFormed told.purpose) (cons_option (option_map (λ keys. record { file = file; token = selector_place selector; purpose = ForFrames (channels_of selector.chan) keys }) o) (filter_map (told_by_selector base file) rest))
      go None is all = all
      go (Some keys) is all = (selected_formed base selector.what keys is, all)

-- ---- positions

-- a thing that passes stands at some place
some_place : {A : Type 0} (p : A → Bool) (xs : List A) (x : A) → IsAmong x xs → p x ≡ true → (i : ℕ) × (position p xs ≡ Some i)
some_place p xs x among passes =
    (position_or_len p xs, ap (λ b. cond b (Some (position_or_len p xs)) None) (before (nat_lt (position_or_len p xs) (length xs)) refl (inside xs among)))
  where
    inside : (ys : List _) → IsAmong x ys → position_or_len p ys < length ys
    inside [] h = elim h [ ]
    inside (y ∷ ys) (inl e) = by (p y) (ap p e ∙ passes)
      where
        by : (b : Bool) → b ≡ true → cond (not b) (1 + position_or_len p ys) 0 < suc (length ys)
        by true is = omega arith
        by false is = absurd (let f : false ≡ true = is in cc)
    inside (y ∷ ys) (inr s) = by (p y) (inside ys s)
      where
        by : (b : Bool) → position_or_len p ys < length ys → cond (not b) (1 + position_or_len p ys) 0 < suc (length ys)
        by true less = omega (arith, less)
        by false less = omega (arith, less)

    before : (b : Bool) → nat_lt (position_or_len p xs) (length xs) ≡ b → position_or_len p xs < length xs → nat_lt (position_or_len p xs) (length xs) ≡ true
    before true is less = is
    before false is less = absurd (let h : length xs ≤ position_or_len p xs = ltb-false (position_or_len p xs) (length xs) is in omega (arith, h, less))

-- a thing that passes is among those that do
among_filter : {A : Type 0} (p : A → Bool) (xs : List A) (x : A) → IsAmong x xs → p x ≡ true → IsAmong x (filter p xs)
among_filter p [] x h passes = elim h [ ]
among_filter p (y ∷ ys) x (inl e) passes = subst (λ b. IsAmong x (cond b (y ∷ filter p ys) (filter p ys))) (sym (ap p e ∙ passes)) (inl e)
among_filter p (y ∷ ys) x (inr s) passes = by (p y) (among_filter p ys x s passes)
  where
    by : (b : Bool) → IsAmong x (filter p ys) → IsAmong x (cond b (y ∷ filter p ys) (filter p ys))
    by true h = inr h
    by false h = h

-- ---- timers

-- the variable that a name names as a timer
record TimerNamed (names : Names) (name : List ℕ) : Type 0 where
  variable : Variable
  unit : ℕ
  is : global names name ≡ Some variable
  form : HasForm names variable (Timer unit)
  same : name ≡ variable.name

timer_there : (names : Names) (name : List ℕ) → names_timer names name ≡ true → TimerNamed names name
timer_there names name h = go (global names name) refl h
  where
    by : (v : Variable) → global names name ≡ Some v → (form : Form) → v.form ≡ form → is_timer form ≡ true → TimerNamed names name
    by v is (Timer unit) e h =
        let found = found_is (is_global name) names.variables v is in
        record {
          variable = v;
          unit = unit;
          is = is;
          form = record { among = found_among (is_global name) names.variables v is; form_is = e };
          same = (bytes_eq-Decides name v.name).0 (and_both (v.owner == 0) (bytes_eq name v.name) found).1;
        }
      where
        found_is : (test : Variable → Bool) (vs : List Variable) (v : Variable) → find test vs ≡ Some v → test v ≡ true
        found_is test [] v e = absurd (let f : None ≡ Some v = e in cc)
        found_is test (u ∷ us) v e = test_of (test u) refl e (λ e. found_is test us v e)
          where
            test_of : (b : Bool) → test u ≡ b → cond b (Some u) (find test us) ≡ Some v → (find test us ≡ Some v → test v ≡ true) → test v ≡ true
            test_of true is e further = let f : Some u ≡ Some v = e in let same : u ≡ v = cc in subst (λ x. test x ≡ true) same is
            test_of false is e further = further e
    by v is other e h = absurd (let f : false ≡ true = h in cc)

    go : (o : Option Variable) → global names name ≡ o → option_map_or (λ v. is_timer v.form) o false ≡ true → TimerNamed names name
    go None is h = absurd (let f : false ≡ true = h in cc)
    go (Some v) is h = by v is v.form refl h

-- two timers of one number have one name
one_timer : (names : Names) (u v : Variable) (j k : ℕ) → HasForm names u (Timer j) → HasForm names v (Timer k) → timer_number names u ≡ timer_number names v → u.name ≡ v.name
one_timer names u v j k one other same =
    let first = at u j one in
    let second = at v k other in
    let place : first.0 ≡ second.0 = sym (ap (λ o. unwrap_or o 0) first.1) ∙ same ∙ ap (λ o. unwrap_or o 0) second.1 in
    let here = (position-Some (λ w. same_key (store.variable_key u) (store.variable_key w)) timers first.0 u first.1).1 in
    let there = (position-Some (λ w. same_key (store.variable_key v) (store.variable_key w)) timers second.0 u second.1).1 in
    let a = name_of u (get_or timers first.0 u) here in
    let b = name_of v (get_or timers second.0 u) there in
    a ∙ ap (λ i. (get_or timers i u).name) place ∙ sym b
  where
    timers : List Variable
    timers = filter (λ w. is_timer w.form) names.variables

    at : (x : Variable) (unit : ℕ) → HasForm names x (Timer unit) → (i : ℕ) × (position (λ w. same_key (store.variable_key x) (store.variable_key w)) (filter (λ w. is_timer w.form) names.variables) ≡ Some i)
    at x unit form = some_place (λ w. same_key (store.variable_key x) (store.variable_key w)) (filter (λ w. is_timer w.form) names.variables) x (among_filter (λ w. is_timer w.form) names.variables x form.among (ap is_timer form.form_is)) (key_self (store.variable_key x))

    name_of : (x w : Variable) → same_key (store.variable_key x) (store.variable_key w) ≡ true → x.name ≡ w.name
    name_of x w is = (bytes_eq-Decides x.name w.name).0 (and_both (x.owner == w.owner) (bytes_eq x.name w.name) is).1

module _ (names : Names) where
  timer_of_purpose : (name : List ℕ) (n : ℕ) → timer_in names (ForTimer name) ≡ Some n → (names_timer names name ≡ true) × (timer_named names name ≡ n)
  timer_of_purpose name n is = go (names_timer names name) refl is
    where
      go : (b : Bool) → names_timer names name ≡ b → (if b then Some (timer_named names name) else None) ≡ Some n → (names_timer names name ≡ true) × (timer_named names name ≡ n)
      go true is e = (is, let f : Some (timer_named names name) ≡ Some n = e in cc)
      go false is e = absurd (let f : None ≡ Some n = e in cc)

  -- the timers of two procedures differ
  pub timers_differ : (a b : Purpose) (m n : ℕ) → collide b a ≡ false → timer_in names a ≡ Some m → timer_in names b ≡ Some n → m ≢ n
  timers_differ (ForTimer x) (ForTimer y) m n apart one other same =
      let first = timer_of_purpose x m one in
      let second = timer_of_purpose y n other in
      let u = timer_there names x first.0 in
      let v = timer_there names y second.0 in
      let number : timer_number names u.variable ≡ m = sym (ap (λ o. option_map_or (timer_number names) o 0) u.is) ∙ first.1 in
      let others : timer_number names v.variable ≡ n = sym (ap (λ o. option_map_or (timer_number names) o 0) v.is) ∙ second.1 in
      let name : y ≡ x = v.same ∙ sym (one_timer names u.variable v.variable u.unit v.unit u.form v.form (number ∙ same ∙ sym others)) ∙ sym u.same in
      let e : true ≡ false = sym ((bytes_eq-Decides y x).1 name) ∙ apart in cc
  timers_differ (ForTimer x) (ForFrames channels keys) m n apart one other same = let f : None ≡ Some n = other in cc
  timers_differ (ForTimer x) (ForKey key) m n apart one other same = let f : None ≡ Some n = other in cc
  timers_differ (ForFrames channels keys) b m n apart one other same = let f : None ≡ Some m = one in cc
  timers_differ (ForKey key) b m n apart one other same = let f : None ≡ Some m = one in cc

  -- the timer of a procedure exists
  pub timer_exists : (typed : Typed) → HasTables names typed → (a : Purpose) (n : ℕ) → timer_in names a ≡ Some n → n < length typed.timers
  timer_exists typed tables (ForTimer x) n is =
      let given = timer_of_purpose x n is in
      let u = timer_there names x given.0 in
      let number : timer_number names u.variable ≡ n = sym (ap (λ o. option_map_or (timer_number names) o 0) u.is) ∙ given.1 in
      subst (λ n. n < length typed.timers) number (tables.timers u.variable u.unit u.form)
  timer_exists typed tables (ForFrames channels keys) n is = absurd (let f : None ≡ Some n = is in cc)
  timer_exists typed tables (ForKey key) n is = absurd (let f : None ≡ Some n = is in cc)

-- ---- keys

-- the keys of two procedures differ
pub keys_differ : (a b : Purpose) (x y : Option ℕ) → collide b a ≡ false → key_in a ≡ Some x → key_in b ≡ Some y → x ≢ y
keys_differ (ForKey None) (ForKey None) x y apart one other same = let f : true ≡ false = apart in cc
keys_differ (ForKey None) (ForKey (Some n)) x y apart one other same = let f : Some None ≡ Some x = one in let g : Some (Some n) ≡ Some y = other in cc
keys_differ (ForKey (Some m)) (ForKey None) x y apart one other same = let f : Some (Some m) ≡ Some x = one in let g : Some None ≡ Some y = other in cc
keys_differ (ForKey (Some m)) (ForKey (Some n)) x y apart one other same =
    let f : Some (Some m) ≡ Some x = one in
    let g : Some (Some n) ≡ Some y = other in
    let number : m ≡ n = cc in
    let h : n == m ≡ true = subst (λ k. n == k ≡ true) (sym number) (nat_eq_equiv.refl n) in
    let e : true ≡ false = sym h ∙ apart in cc
keys_differ (ForKey (Some m)) (ForFrames channels keys) x y apart one other same = let f : None ≡ Some y = other in cc
keys_differ (ForKey None) (ForFrames channels keys) x y apart one other same = let f : None ≡ Some y = other in cc
keys_differ (ForKey (Some m)) (ForTimer name) x y apart one other same = let f : None ≡ Some y = other in cc
keys_differ (ForKey None) (ForTimer name) x y apart one other same = let f : None ≡ Some y = other in cc
keys_differ (ForFrames channels keys) b x y apart one other same = let f : None ≡ Some x = one in cc
keys_differ (ForTimer name) b x y apart one other same = let f : None ≡ Some x = one in cc
