-- The tables of a typed program have what a source's names need.
use Rattle.std.proofs.Common.{◌≡◌, ◌≢◌, ℕ, ◌+◌, ◌≤◌, ◌<◌, inl, inr, Bool, true, false, List, ◌++◌, length, refl, sym, ap, ◌∙◌, subst, arith, length-append, append_assoc}
use Rattle.std.specs.Prelude.{All, drop, nat_lt, replicate, slice_index_or, take}
use Rattle.std.proofs.lemmas.Bool.{ltb-false, ltb-true}
use Rattle.std.proofs.lemmas.List.{get_or_past}
use Rattle.int_kinds.specs.declared.kinds.Kind.{Kind}
use Rattle.int_kinds.specs.declared.kinds.Kind.TheVariants.{Long}
use Rattle.run_effects.specs.Effect.{IsUnit}
use Rattle.message_cells.specs.Cells.{BeginWithEvent}
use Rattle.message_cells.specs.Message.{IsMessage, message_kinds}
use Rattle.capl_tree.specs.declared.expr.Expr.{Expr}
use Rattle.typed_tree.specs.declared.program.Typed.{Typed}
use Rattle.typed_tree.specs.Memory.{kind_of}
use Rattle.typed_tree.specs.SoundExpression.{IsUniformArray}
use Rattle.capl_meaning.specs.Variable.{Form, Number, Array, Message, MessageType, Timer, Misfit, Variable}
use Rattle.capl_meaning.specs.Names.{Names}
use Rattle.capl_meaning.specs.Constant.{elements_of}
use Rattle.capl_meaning.specs.Store.{event_kinds, variable_key, kinds_by, laid_kinds, timer_number, timer_units}
use Rattle.typed_laws.specs.Laid.{AreDistinct, HasForm, IsAmong, cells_by_form, cells_before, slot}
use Rattle.typed_laws.proofs.Lists.{at_middle, replicate_at, replicate_long, take_middle}
use Rattle.typed_laws.proofs.Parts.{parted}
use Rattle.typed_laws.proofs.Timers.{unit_found}
use Rattle.typed_source.specs.Sound.{HasTables, HaveElements, HaveUnits}

-- a unit is not 0
unit_some : (unit : ℕ) → IsUnit unit → unit ≢ 0
unit_some unit (inl e) zero_is = absurd (omega (arith, e, zero_is))
unit_some unit (inr e) zero_is = absurd (omega (arith, e, zero_is))

module _ (names : Names) where
  abbrev all : List Kind
  all = event_kinds ++ laid_kinds names

  -- the kinds of a variable's cells
  abbrev own : Variable → List Kind
  own v = kinds_by (elements_of names v) v.form

  own_long : (elements : ℕ) (form : Form) → length (kinds_by elements form) ≡ cells_by_form elements form
  own_long elements (Number k fixed) = refl
  own_long elements (Array k fixed size) = replicate_long elements k
  own_long elements other = refl

  -- the kinds of all cells, around those of one variable
  record Around (v : Variable) : Type 0 where
    before : List Kind
    after : List Kind
    is : all ≡ before ++ (own v ++ after)
    at : slot names (variable_key v) ≡ length before

  module _ (distinct : AreDistinct names.variables) where
    around : (v : Variable) → IsAmong v names.variables → Around v
    around v among =
        let p = parted names own (λ v. own_long (elements_of names v) v.form) names.variables distinct v among in
        let long : length (event_kinds ++ p.0) ≡ 15 + length p.0 = length-append event_kinds p.0 in
        record {
          before = event_kinds ++ p.0;
          after = p.1;
          is = ap (λ l. event_kinds ++ l) (p.3 own (λ u _. refl)) ∙ sym (append_assoc event_kinds p.0 (own v ++ p.1));
          at = let e : length p.0 ≡ cells_before names names.variables (variable_key v) = p.2 in omega (arith, long, e);
        }

    all_long : (v : Variable) (a : Around v) → slot names (variable_key v) + length (own v) ≤ length all
    all_long v a =
        let e : length all ≡ length (a.before ++ (own v ++ a.after)) = ap length a.is in
        let f : length (a.before ++ (own v ++ a.after)) ≡ length a.before + length (own v ++ a.after) = length-append a.before (own v ++ a.after) in
        let g : length (own v ++ a.after) ≡ length (own v) + length a.after = length-append (own v) a.after in
        let h : slot names (variable_key v) ≡ length a.before = a.at in
        omega (arith, e, f, g, h)

    -- a variable's cells have its kinds
    cut : (v : Variable) (a : Around v) (n : ℕ) → length (own v) ≡ n → take n (drop (slot names (variable_key v)) all) ≡ own v
    cut v a n long = ap (λ i. take n (drop i all)) a.at ∙ ap (λ l. take n (drop (length a.before) l)) a.is ∙ take_middle a.before (own v) a.after n long

    numbers : (v : Variable) (k : Kind) (fixed : Bool) → HasForm names v (Number k fixed) → slot names (variable_key v) < length all
    numbers v k fixed real =
        let e : length (own v) ≡ 1 = ap (λ form. length (kinds_by (elements_of names v) form)) real.form_is in
        let f : slot names (variable_key v) + length (own v) ≤ length all = all_long v (around v real.among) in
        omega (arith, e, f)

    messages : (v : Variable) (type_ : MessageType) → HasForm names v (Message type_) → IsMessage all (slot names (variable_key v))
    messages v type_ real =
        let e : own v ≡ message_kinds = ap (kinds_by (elements_of names v)) real.form_is in
        cut v (around v real.among) 14 (ap length e) ∙ e

    same_kinds : (n : ℕ) (k : Kind) → All (λ j. j ≡ k) (replicate n k)
    same_kinds n k i d less = replicate_at n i k d (let e : length (replicate n k) ≡ n = replicate_long n k in omega (arith, less, e))

    arrays : (v : Variable) (k : Kind) (fixed : Bool) (size : Expr) → HasForm names v (Array k fixed size) → 1 ≤ elements_of names v →
        IsUniformArray all (slot names (variable_key v)) (elements_of names v) × (kind_of all (slot names (variable_key v)) ≡ k)
    arrays v k fixed size real least =
        let a = around v real.among in
        let n = elements_of names v in
        let e : own v ≡ replicate n k = ap (kinds_by n) real.form_is in
        let long : length (own v) ≡ n = ap length e ∙ replicate_long n k in
        let zero_more : length a.before + 0 ≡ length a.before = omega arith in
        let first : kind_of all (slot names (variable_key v)) ≡ k =
        ap (λ i. slice_index_or all i Long) a.at ∙ ap (λ l. slice_index_or l (length a.before) Long) a.is
        ∙ ap (λ i. slice_index_or (a.before ++ (own v ++ a.after)) i Long) (sym zero_more)
        ∙ at_middle a.before (own v) a.after 0 Long (omega (arith, long, least))
        ∙ ap (λ l. slice_index_or l 0 Long) e ∙ replicate_at n 0 k Long (omega (arith, least)) in (
          record {
            at_least_one = least;
            there = let f : slot names (variable_key v) + length (own v) ≤ length all = all_long v a in omega (arith, f, long);
            of_one_kind = subst (λ l. All (λ j. j ≡ kind_of all (slot names (variable_key v))) l) (sym (cut v a n long ∙ e))
                (subst (λ j. All (λ i. i ≡ j) (replicate n k)) (sym first) (same_kinds n k));
          },
          first,
        )

    timers : (v : Variable) (unit : ℕ) → HasForm names v (Timer unit) → unit ≢ 0 → timer_number names v < length (timer_units names)
    timers v unit real some = go (nat_lt (timer_number names v) (length (timer_units names))) refl
      where
        past : (xs : List ℕ) (i : ℕ) → length xs ≤ i → slice_index_or xs i 0 ≡ 0
        past xs i h = get_or_past xs i 0 h

        go : (b : Bool) → nat_lt (timer_number names v) (length (timer_units names)) ≡ b → timer_number names v < length (timer_units names)
        go true e = ltb-true (timer_number names v) (length (timer_units names)) e
        go false e = absurd (some (sym (unit_found names distinct v unit real) ∙ past (timer_units names) (timer_number names v) (ltb-false (timer_number names v) (length (timer_units names)) e)))

    -- the tables of a typed program that are those of names without a name for the second time
    pub has_tables : (typed : Typed) → typed.cells ≡ all → typed.timers ≡ timer_units names →
        HaveElements names → HaveUnits names → HasTables names typed
    has_tables typed cells units some some_unit = record {
      numbers = λ v k fixed real. subst (λ l. slot names (variable_key v) < length l) (sym cells) (numbers v k fixed real);
      arrays = λ v k fixed size real. subst (λ l. IsUniformArray l (slot names (variable_key v)) (elements_of names v) × (kind_of l (slot names (variable_key v)) ≡ k)) (sym cells)
          (arrays v k fixed size real (some v k fixed size real));
      messages = λ v type_ real. subst (λ l. IsMessage l (slot names (variable_key v))) (sym cells) (messages v type_ real);
      event = subst (λ l. BeginWithEvent l) (sym cells) (record { message = refl; key = refl });
      timers = λ v unit real. subst (λ l. timer_number names v < length l) (sym units) (timers v unit real (unit_some unit (some_unit v unit real)));
    }
