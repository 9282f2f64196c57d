-- What lies at the number of a variable, where no two variables have one name.
use Rattle.std.proofs.Common.{◌≡◌, ℕ, zero, suc, ◌+◌, ◌<◌, inl, inr, Bool, true, false, List, [], ◌∷◌, length, Option, Some, None, refl, sym, ap, ◌∙◌, subst, arith}
use Rattle.std.specs.Prelude.{cond, nat_lt, filter, position, slice_get, unwrap_or}
use Rattle.std.specs.List.{AllByRecursion, position_or_len}
use Rattle.std.proofs.lemmas.Bool.{ltb-true, ltb-false}
use Rattle.capl_meaning.specs.Variable.{Form, Number, Array, Message, Timer, Misfit, Variable, is_timer}
use Rattle.capl_meaning.specs.Names.{Names}
use Rattle.capl_meaning.specs.Constant.{elements_of}
use Rattle.capl_meaning.specs.Store.{variable_key, same_key, timer_number}
use Rattle.typed_laws.specs.Laid.{AreDistinct, IsAmong, cell_count, cells_before, slot}
use Rattle.typed_laws.proofs.Parts.{fresh, key_other, key_self}
use Rattle.type_expressions.specs.declared.layout.Laid.{Laid}
use Rattle.type_expressions.specs.declared.layout.Layout.{Layout}
use Rattle.type_expressions.specs.Layout.{IsLayoutOf, laid_from, timer_at, timers_with}

-- the timers among variables, and the place among them of the first with the key of a variable
abbrev timers_in : List Variable → List Variable
timers_in vs = filter (λ u. is_timer u.form) vs

abbrev place_of : Variable → List Variable → ℕ
place_of v vs = position_or_len (λ u. same_key (variable_key v) (variable_key u)) vs

-- a variable of a list stands in it
pub stands : (vs : List Variable) (i : ℕ) (v : Variable) → slice_get vs i ≡ Some v → IsAmong v vs
stands [] i v at = absurd (let f : None ≡ Some v = at in cc)
stands (u ∷ vs) zero v at = inl (let f : Some u ≡ Some v = at in cc)
stands (u ∷ vs) (suc i) v at = inr (stands vs i v at)

-- ---- timers

first_is_timer : (u : Variable) (us : List Variable) (unit : ℕ) → u.form ≡ Timer unit → timers_in (u ∷ us) ≡ u ∷ timers_in us
first_is_timer u us unit is = ap (λ f. cond (is_timer f) (u ∷ timers_in us) (timers_in us)) is

first_is_none : (u : Variable) (us : List Variable) → is_timer u.form ≡ false → timers_in (u ∷ us) ≡ timers_in us
first_is_none u us is = ap (λ b. cond b (u ∷ timers_in us) (timers_in us)) is

own_place : (u : Variable) (us : List Variable) → place_of u (u ∷ us) ≡ 0
own_place u us = rw (key_self (variable_key u)) refl

later_place : (v u : Variable) (us : List Variable) → same_key (variable_key v) (variable_key u) ≡ false → place_of v (u ∷ us) ≡ 1 + place_of v us
later_place v u us apart = rw apart refl

-- the first variable's number is that of the timers before it
first_timer : (u : Variable) (us : List Variable) (timers : ℕ) (form : Form) → u.form ≡ form →
    timer_at timers form ≡ timer_at (timers + place_of u (timers_in (u ∷ us))) form
first_timer u us timers (Timer unit) is =
    let none : place_of u (timers_in (u ∷ us)) ≡ 0 = ap (place_of u) (first_is_timer u us unit is) ∙ own_place u (timers_in us) in
    omega (arith, none)
first_timer u us timers (Number k fixed) is = refl
first_timer u us timers (Array k fixed size) is = refl
first_timer u us timers (Message type_) is = refl
first_timer u us timers Misfit is = refl

-- a later one's number counts the first one, where that is a timer
later_timer : (v u : Variable) (us : List Variable) (timers : ℕ) (form : Form) → u.form ≡ form → same_key (variable_key v) (variable_key u) ≡ false →
    timers_with timers form + place_of v (timers_in us) ≡ timers + place_of v (timers_in (u ∷ us))
later_timer v u us timers (Timer unit) is apart =
    let next : place_of v (timers_in (u ∷ us)) ≡ 1 + place_of v (timers_in us) = ap (place_of v) (first_is_timer u us unit is) ∙ later_place v u (timers_in us) apart in
    omega (arith, next)
later_timer v u us timers (Number k fixed) is apart = ap (λ l. timers + place_of v l) (sym (first_is_none u us (ap is_timer is)))
later_timer v u us timers (Array k fixed size) is apart = ap (λ l. timers + place_of v l) (sym (first_is_none u us (ap is_timer is)))
later_timer v u us timers (Message type_) is apart = ap (λ l. timers + place_of v l) (sym (first_is_none u us (ap is_timer is)))
later_timer v u us timers Misfit is apart = ap (λ l. timers + place_of v l) (sym (first_is_none u us (ap is_timer is)))

-- a timer stands among the timers
timer_inside : (v : Variable) (unit : ℕ) → v.form ≡ Timer unit → (vs : List Variable) → IsAmong v vs →
    place_of v (timers_in vs) < length (timers_in vs)
timer_inside v unit is [] among = elim among [ ]
timer_inside v unit is (u ∷ us) (inl e) =
    subst (λ x. place_of v (timers_in (x ∷ us)) < length (timers_in (x ∷ us))) (sym e)
    (subst (λ l. place_of v l < length l) (sym (first_is_timer v us unit is)) (rw (own_place v (timers_in us)) (omega arith)))
timer_inside v unit is (u ∷ us) (inr s) = go (is_timer u.form) (timer_inside v unit is us s)
  where
    by : (b : Bool) → same_key (variable_key v) (variable_key u) ≡ b → place_of v (timers_in us) < length (timers_in us) →
        place_of v (u ∷ timers_in us) < suc (length (timers_in us))
    by true same h = rw same (omega arith)
    by false apart h = let next = later_place v u (timers_in us) apart in omega (arith, h, next)

    go : (b : Bool) → place_of v (timers_in us) < length (timers_in us) →
        place_of v (cond b (u ∷ timers_in us) (timers_in us)) < length (cond b (u ∷ timers_in us) (timers_in us))
    go true h = by (same_key (variable_key v) (variable_key u)) refl h
    go false h = h

-- what has another key than all is not among their timers
none_among : (v : Variable) (us : List Variable) → AllByRecursion (λ x. same_key (variable_key x) (variable_key v) ≡ false) us →
    place_of v (timers_in us) ≡ length (timers_in us)
none_among v [] all = refl
none_among v (u ∷ us) all = go (is_timer u.form) (key_other (variable_key u) (variable_key v) all.0) (none_among v us all.1)
  where
    go : (b : Bool) → same_key (variable_key v) (variable_key u) ≡ false → place_of v (timers_in us) ≡ length (timers_in us) →
        place_of v (cond b (u ∷ timers_in us) (timers_in us)) ≡ length (cond b (u ∷ timers_in us) (timers_in us))
    go true apart h = later_place v u (timers_in us) apart ∙ omega (arith, h)
    go false apart h = h

-- what is no timer is not among them
no_timer_outside : (v : Variable) → is_timer v.form ≡ false → (vs : List Variable) → AreDistinct vs → IsAmong v vs →
    place_of v (timers_in vs) ≡ length (timers_in vs)
no_timer_outside v is [] distinct among = elim among [ ]
no_timer_outside v is (u ∷ us) distinct (inl e) =
    subst (λ x. place_of v (timers_in (x ∷ us)) ≡ length (timers_in (x ∷ us))) (sym e)
    (subst (λ l. place_of v l ≡ length l) (sym (first_is_none v us is))
    (none_among v us (subst (λ y. AllByRecursion (λ x. same_key (variable_key x) (variable_key y) ≡ false) us) e distinct.0)))
no_timer_outside v is (u ∷ us) distinct (inr s) =
    go (is_timer u.form) (fresh u v us distinct.0 s) (no_timer_outside v is us distinct.1 s)
  where
    go : (b : Bool) → same_key (variable_key v) (variable_key u) ≡ false → place_of v (timers_in us) ≡ length (timers_in us) →
        place_of v (cond b (u ∷ timers_in us) (timers_in us)) ≡ length (cond b (u ∷ timers_in us) (timers_in us))
    go true apart h = later_place v u (timers_in us) apart ∙ omega (arith, h)
    go false apart h = h

found_place : (p : Variable → Bool) (vs : List Variable) → position_or_len p vs < length vs → unwrap_or (position p vs) 0 ≡ position_or_len p vs
found_place p vs less = by (nat_lt (position_or_len p vs) (length vs)) refl
  where
    by : (b : Bool) → nat_lt (position_or_len p vs) (length vs) ≡ b → unwrap_or (cond b (Some (position_or_len p vs)) None) 0 ≡ position_or_len p vs
    by true e = refl
    by false e = absurd (omega (arith, less, ltb-false (position_or_len p vs) (length vs) e))

no_place : (p : Variable → Bool) (vs : List Variable) → position_or_len p vs ≡ length vs → unwrap_or (position p vs) 0 ≡ 0
no_place p vs same = by (nat_lt (position_or_len p vs) (length vs)) refl
  where
    by : (b : Bool) → nat_lt (position_or_len p vs) (length vs) ≡ b → unwrap_or (cond b (Some (position_or_len p vs)) None) 0 ≡ 0
    by true e = absurd (omega (arith, same, ltb-true (position_or_len p vs) (length vs) e))
    by false e = refl

-- the number of a timer is its place among the timers, and 0 of all else
number_of_timer : (names : Names) (v : Variable) (form : Form) → v.form ≡ form → AreDistinct names.variables → IsAmong v names.variables →
    timer_at (place_of v (timers_in names.variables)) form ≡ timer_number names v
number_of_timer names v (Timer unit) is distinct among =
    sym (found_place (λ u. same_key (variable_key v) (variable_key u)) (timers_in names.variables) (timer_inside v unit is names.variables among))
number_of_timer names v (Number k fixed) is distinct among =
    sym (no_place (λ u. same_key (variable_key v) (variable_key u)) (timers_in names.variables) (no_timer_outside v (ap is_timer is) names.variables distinct among))
number_of_timer names v (Array k fixed size) is distinct among =
    sym (no_place (λ u. same_key (variable_key v) (variable_key u)) (timers_in names.variables) (no_timer_outside v (ap is_timer is) names.variables distinct among))
number_of_timer names v (Message type_) is distinct among =
    sym (no_place (λ u. same_key (variable_key v) (variable_key u)) (timers_in names.variables) (no_timer_outside v (ap is_timer is) names.variables distinct among))
number_of_timer names v Misfit is distinct among =
    sym (no_place (λ u. same_key (variable_key v) (variable_key u)) (timers_in names.variables) (no_timer_outside v (ap is_timer is) names.variables distinct among))

-- ---- what lies where

-- what lies at the number of a variable
pub record There (names : Names) (v : Variable) (cell number : ℕ) (laid : Option Laid) : Type 0 where
  pub there : Laid
  pub is : laid ≡ Some there
  pub elements : there.elements ≡ elements_of names v
  pub slot : there.slot ≡ cell
  pub timer : there.timer ≡ timer_at number v.form

-- each variable has its elements
pub elements_there : (names : Names) (vs : List Variable) (i : ℕ) (v : Variable) → slice_get vs i ≡ Some v → (cell timers : ℕ) →
    (laid : Laid) × (slice_get (laid_from names cell timers vs) i ≡ Some laid) × (laid.elements ≡ elements_of names v)
elements_there names [] i v at cell timers = absurd (let f : None ≡ Some v = at in cc)
elements_there names (u ∷ vs) zero v at cell timers =
    let e : u ≡ v = let f : Some u ≡ Some v = at in cc in (_, refl, ap (elements_of names) e)
elements_there names (u ∷ vs) (suc i) v at cell timers =
    elements_there names vs i v at (cell + cell_count names u) (timers_with timers u.form)

first_there : (names : Names) (u : Variable) (us : List Variable) (cell timers : ℕ) →
    There names u (cell + cells_before names (u ∷ us) (variable_key u)) (timers + place_of u (timers_in (u ∷ us)))
    (slice_get (laid_from names cell timers (u ∷ us)) 0)
first_there names u us cell timers =
    let none : cells_before names (u ∷ us) (variable_key u) ≡ zero = rw (key_self (variable_key u)) refl in
    record {
      there = record { slot = cell; elements = elements_of names u; timer = timer_at timers u.form };
      is = refl;
      elements = refl;
      slot = omega (arith, none);
      timer = first_timer u us timers u.form refl;
    }

-- each variable has its first cell, and its number among the timers
pub all_there : (names : Names) (vs : List Variable) → AreDistinct vs → (i : ℕ) (v : Variable) → slice_get vs i ≡ Some v → (cell timers : ℕ) →
    There names v (cell + cells_before names vs (variable_key v)) (timers + place_of v (timers_in vs)) (slice_get (laid_from names cell timers vs) i)
all_there names [] distinct i v at cell timers = absurd (let f : None ≡ Some v = at in cc)
all_there names (u ∷ us) distinct zero v at cell timers =
    let e : u ≡ v = let f : Some u ≡ Some v = at in cc in
    subst (λ x. There names x (cell + cells_before names (u ∷ us) (variable_key x)) (timers + place_of x (timers_in (u ∷ us)))
    (slice_get (laid_from names cell timers (u ∷ us)) 0)) e (first_there names u us cell timers)
all_there names (u ∷ us) distinct (suc i) v at cell timers =
    let apart = fresh u v us distinct.0 (stands us i v at) in
    let later : cells_before names (u ∷ us) (variable_key v) ≡ cell_count names u + cells_before names us (variable_key v) =
    rw (key_other (variable_key v) (variable_key u) apart) refl in
    let rest = all_there names us distinct.1 i v at (cell + cell_count names u) (timers_with timers u.form) in
    record {
      there = rest.there;
      is = rest.is;
      elements = rest.elements;
      slot = omega (arith, rest.slot, later);
      timer = rest.timer ∙ ap (λ n. timer_at n v.form) (later_timer v u us timers u.form refl apart);
    }

-- what a layout has at the number of a variable
pub laid_there : (names : Names) (layout : Layout) (i : ℕ) (v : Variable) (laid : Laid) → IsLayoutOf names layout →
    AreDistinct names.variables → slice_get names.variables i ≡ Some v → slice_get layout.all.items i ≡ Some laid →
    (laid.slot ≡ slot names (variable_key v)) × (laid.timer ≡ timer_number names v)
laid_there names layout i v laid of distinct at is =
    let t = all_there names names.variables distinct i v at 15 0 in
    let e : t.there ≡ laid = let f : Some t.there ≡ Some laid = sym t.is ∙ ap (λ all. slice_get all i) (sym of.laid) ∙ is in cc in
    let zero_more : 0 + place_of v (timers_in names.variables) ≡ place_of v (timers_in names.variables) = omega arith in (
      sym (ap (λ (l : Laid). l.slot) e) ∙ t.slot,
      sym (ap (λ (l : Laid). l.timer) e) ∙ t.timer ∙ ap (λ n. timer_at n v.form) zero_more
          ∙ number_of_timer names v v.form refl distinct (stands names.variables i v at),
    )

-- a layout has something there
pub some_there : (names : Names) (layout : Layout) (i : ℕ) (v : Variable) → IsLayoutOf names layout → slice_get names.variables i ≡ Some v →
    (laid : Laid) × (slice_get layout.all.items i ≡ Some laid) × (laid.elements ≡ elements_of names v)
some_there names layout i v of at =
    let t = elements_there names names.variables i v at 15 0 in (t.0, ap (λ all. slice_get all i) of.laid ∙ t.1, t.2)
