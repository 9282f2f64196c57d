-- A timer's unit stands at its number.
use Rattle.std.proofs.Common.{◌≡◌, ℕ, suc, ◌+◌, inl, inr, Bool, true, false, List, [], ◌∷◌, ◌<◌, length, Option, Some, None, refl, sym, ap, ◌∙◌, subst, arith}
use Rattle.std.specs.Prelude.{cond, nat_lt, filter, filter_map, slice_index_or, unwrap_or}
use Rattle.std.specs.Option.{option_and_then}
use Rattle.std.specs.List.{position_or_len}
use Rattle.std.specs.Bool.{then_some}
use Rattle.std.proofs.lemmas.Bool.{ltb-false}
use Rattle.capl_tree.specs.declared.expr.Expr.{Expr}
use Rattle.capl_tree.specs.declared.expr.Expr.TheVariants as expr
use Rattle.capl_tree.specs.Forms as tree
use Rattle.capl_meaning.specs.Variable.{Form, Number, Array, Message, Timer, Misfit, Variable, is_timer}
use Rattle.capl_meaning.specs.Names.{Names, Scope, means}
use Rattle.capl_meaning.specs.Store.{variable_key, same_key, timer_number, timer_units, unit_of}
use Rattle.capl_meaning.specs.Expression.{timer_in}
use Rattle.typed_laws.specs.Laid.{AreDistinct, HasForm, IsAmong}
use Rattle.typed_laws.proofs.Parts.{fresh, key_self}
use Rattle.typed_laws.proofs.Places.{means_among}

-- the timers among variables, and their units
abbrev timers : List Variable → List Variable
timers vs = filter (λ u. is_timer u.form) vs

abbrev units : List Variable → List ℕ
units vs = filter_map (λ u. unit_of u.form) vs

-- where a timer stands among the timers, its unit stands among the units
record Found (v : Variable) (unit : ℕ) (vs : List Variable) : Type 0 where
  place : ℕ
  is : position_or_len (λ u. same_key (variable_key v) (variable_key u)) (timers vs) ≡ place
  inside : place < length (timers vs)
  unit_there : slice_index_or (units vs) place 0 ≡ unit

found_first : (v : Variable) (unit : ℕ) (us : List Variable) → v.form ≡ Timer unit → Found v unit (v ∷ us)
found_first v unit us form =
    let all : timers (v ∷ us) ≡ v ∷ timers us = ap (λ f. cond (is_timer f) (v ∷ timers us) (timers us)) form in
    let first : position_or_len (λ u. same_key (variable_key v) (variable_key u)) (v ∷ timers us) ≡ 0 = rw (key_self (variable_key v)) refl in
    record {
      place = 0;
      is = ap (position_or_len (λ u. same_key (variable_key v) (variable_key u))) all ∙ first;
      inside = subst (λ l. 0 < length l) (sym all) (omega arith);
      unit_there = rw form refl;
    }

found_later : (v u : Variable) (unit : ℕ) (us : List Variable) → same_key (variable_key v) (variable_key u) ≡ false → Found v unit us → Found v unit (u ∷ us)
found_later v u unit us apart f = by_form u.form refl
  where
    skipped : (form : Form) → u.form ≡ form → is_timer form ≡ false → unit_of form ≡ None → Found v unit (u ∷ us)
    skipped form is no_timer no_unit =
        let all : timers (u ∷ us) ≡ timers us = ap (λ f. cond (is_timer f) (u ∷ timers us) (timers us)) is ∙ ap (λ b. cond b (u ∷ timers us) (timers us)) no_timer in
        record {
          place = f.place;
          is = ap (position_or_len (λ u. same_key (variable_key v) (variable_key u))) all ∙ f.is;
          inside = subst (λ l. f.place < length l) (sym all) f.inside;
          unit_there = rw (is, no_unit) f.unit_there;
        }

    by_form : (form : Form) → u.form ≡ form → Found v unit (u ∷ us)
    by_form (Timer other) is =
        let all : timers (u ∷ us) ≡ u ∷ timers us = ap (λ f. cond (is_timer f) (u ∷ timers us) (timers us)) is in
        let next : 1 + position_or_len (λ u. same_key (variable_key v) (variable_key u)) (timers us) ≡ suc f.place = omega (arith, f.is) in
        record {
          place = suc f.place;
          is = ap (position_or_len (λ u. same_key (variable_key v) (variable_key u))) all ∙ rw apart next;
          inside = subst (λ l. suc f.place < length l) (sym all) (omega (arith, f.inside));
          unit_there = rw is f.unit_there;
        }
    by_form (Number k fixed) is = skipped (Number k fixed) is refl refl
    by_form (Array k fixed size) is = skipped (Array k fixed size) is refl refl
    by_form (Message type_) is = skipped (Message type_) is refl refl
    by_form Misfit is = skipped Misfit is refl refl

found_among : (v : Variable) (unit : ℕ) → v.form ≡ Timer unit → (vs : List Variable) → AreDistinct vs → IsAmong v vs → Found v unit vs
found_among v unit form [] distinct among = elim among [ ]
found_among v unit form (u ∷ us) distinct (inl e) = subst (λ x. Found v unit (x ∷ us)) (sym e) (found_first v unit us form)
found_among v unit form (u ∷ us) distinct (inr s) = found_later v u unit us (fresh u v us distinct.0 s) (found_among v unit form us distinct.1 s)

-- a timer's unit stands at its number
pub unit_found : (names : Names) → AreDistinct names.variables → (v : Variable) (unit : ℕ) → HasForm names v (Timer unit) → slice_index_or (timer_units names) (timer_number names v) 0 ≡ unit
unit_found names distinct v unit real =
    let f = found_among v unit real.form_is names.variables distinct real.among in
    ap (λ n. slice_index_or (timer_units names) n 0) (ap (λ k. unwrap_or (cond (nat_lt k (length (timers names.variables))) (Some k) None) 0) f.is ∙ by_test f.place f.inside (nat_lt f.place (length (timers names.variables))) refl)
    ∙ f.unit_there
  where
    by_test : (k : ℕ) → k < length (timers names.variables) → (b : Bool) → nat_lt k (length (timers names.variables)) ≡ b → unwrap_or (cond b (Some k) None) 0 ≡ k
    by_test k less true e = refl
    by_test k less false e = absurd (omega (arith, less, ltb-false k (length (timers names.variables)) e))

timer_of_form : (names : Names) (u v : Variable) (form : Form) → IsAmong u names.variables → u.form ≡ form → then_some (is_timer form) u ≡ Some v → (unit : ℕ) × HasForm names v (Timer unit)
timer_of_form names u v (Timer unit) among is e =
    let same : u ≡ v = let f : Some u ≡ Some v = e in cc in (unit, subst (λ x. HasForm names x (Timer unit)) same (record { among = among; form_is = is }))
timer_of_form names u v (Number k fixed) among is e = absurd (let f : None ≡ Some v = e in cc)
timer_of_form names u v (Array k fixed size) among is e = absurd (let f : None ≡ Some v = e in cc)
timer_of_form names u v (Message type_) among is e = absurd (let f : None ≡ Some v = e in cc)
timer_of_form names u v Misfit among is e = absurd (let f : None ≡ Some v = e in cc)

-- what is named as a timer is one
pub timer_named : (s : Scope) (e : Expr) (v : Variable) → timer_in s e ≡ Some v → (unit : ℕ) × HasForm s.names v (Timer unit)
timer_named s (tree.Paren inner at) v h = timer_named s inner v h
timer_named s (expr.Name name at) v h = go (means s name at) refl h
  where
    go : (o : Option Variable) → means s name at ≡ o → option_and_then (λ v. then_some (is_timer v.form) v) o ≡ Some v → (unit : ℕ) × HasForm s.names v (Timer unit)
    go None is h = absurd (let f : None ≡ Some v = h in cc)
    go (Some u) is h = timer_of_form s.names u v u.form (means_among s name at u is) refl h
timer_named s e v h = absurd (let f : None ≡ Some v = h in cc)
