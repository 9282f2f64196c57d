-- Slots, the places of timers, and the moments of slots.
use Rattle.std.proofs.Common.{◌≡◌, ◌≢◌, ℕ, zero, suc, ◌+◌, ◌-◌, ◌<◌, ◌≤◌, inl, inr, Bool, true, false, cond, List, [], ◌∷◌, ◌++◌, length, get_or, take, Option, Some, None, is_some, MatchOption, IfSome, count_by, arith, refl, ap, sym, ◌∙◌, subst}
use Rattle.std.proofs.Math.ListN.{set}
use Rattle.std.proofs.lemmas.Bool.{eqb-true, eq-eqb, cases_lt}
use Rattle.std.proofs.lemmas.Bool.Decides.{eqb_tells}
use Rattle.std.proofs.lemmas.List.{get_or-set_other, get_or_past, get_or_default}
use Rattle.std.proofs.lemmas.List.Sums.{sum_by-set, sum_by-cons}
use Rattle.std.proofs.lemmas.Grind.{get_or-set_at}
use Rattle.std.specs.List.{cons_option}
use Rattle.timer_queue.specs.declared.setting.Setting.{Setting}
use Rattle.timer_queue.specs.declared.minima.TheConstants.{NEVER}
use Rattle.timer_queue.specs.Inside.Slots.{settings_in, slot_at, has, HasNone, IsPlaceOf, IsLinked, moment_of, AreMoments, IsPacked}

-- what is not true is false
pub not_true : (b : Bool) → (b ≡ true → ⊥) → b ≡ false
not_true true h = absurd (h refl)
not_true false h = refl

-- the setting in a slot that has one of the timer
pub has_some : (slot : Option Setting) (timer : ℕ) → has timer slot ≡ true → (s : Setting) × (slot ≡ Some s) × (s.timer ≡ timer)
has_some None timer h = absurd (cc)
has_some (Some s) timer h = (s, refl, eqb-true s.timer timer h)

has_of : (slot : Option Setting) (s : Setting) (timer : ℕ) → slot ≡ Some s → s.timer ≡ timer → has timer slot ≡ true
has_of slot s timer is same = ap (has timer) is ∙ eq-eqb s.timer timer same

-- a timer's place is that of the only slot with its setting
none_has : (slots : List (Option Setting)) (places : List (Option ℕ)) → IsLinked slots places → (timer : ℕ) → get_or places timer None ≡ None → HasNone slots timer
none_has slots places linked timer is place = not_true (has timer (slot_at slots place)) (λ h.
    let s = has_some (slot_at slots place) timer h in
    let found = linked.found place s.0 s.1 in
    let there : get_or places timer None ≡ Some place = subst (λ t. get_or places t None ≡ Some place) s.2 found in
    cc)

-- a timer that has a place has its setting there alone, and one that has none has no setting
pub place_known : (slots : List (Option Setting)) (places : List (Option ℕ)) → IsLinked slots places → (timer : ℕ) (result : Option ℕ)
    → get_or places timer None ≡ result → MatchOption result (HasNone slots timer) (IsPlaceOf slots timer)
place_known slots places linked timer None is = none_has slots places linked timer is
place_known slots places linked timer (Some place) is = record {
  held = linked.held timer place is;
  only = λ other h.
      let s = has_some (slot_at slots other) timer h in
      let found = linked.found other s.0 s.1 in
      let there : get_or places timer None ≡ Some other = subst (λ t. get_or places t None ≡ Some other) s.2 found in
      cc;
}

-- a setting's timer is there, and its slot is its place
pub setting_known : (slots : List (Option Setting)) (places : List (Option ℕ)) → IsLinked slots places → (place : ℕ) (s : Setting) → slot_at slots place ≡ Some s
    → (get_or places s.timer None ≡ Some place) × IsPlaceOf slots s.timer place
setting_known slots places linked place s is =
    let there = linked.found place s is in
    (there, place_known slots places linked s.timer (Some place) there)

-- a timer with a place is there
pub place_within : (places : List (Option ℕ)) (timer place : ℕ) → get_or places timer None ≡ Some place → timer < length places
place_within [] timer place is = absurd (cc)
place_within (p ∷ places) zero place is = omega arith
place_within (p ∷ places) (suc timer) place is = omega (arith, place_within places timer place is)

-- no slots and no places are linked
pub new_linked : (places : List (Option ℕ)) → ((timer : ℕ) → get_or places timer None ≡ None) → IsLinked [] places
new_linked places none = record {
  found = λ place s is. absurd (cc);
  held = λ timer place is. let gone = none timer in absurd (cc);
}

-- without slots no moment is reached
pub new_moments : (moments : List ℕ) → ((place : ℕ) → get_or moments place NEVER ≡ NEVER) → AreMoments [] moments
new_moments moments never = record { same = never; in_range = λ place. omega arith }

some_same : {X : Type 0} {a b : X} → Some a ≡ Some b → a ≡ b
some_same h = cc

timer_in_slot : (slot : Option Setting) (timer : ℕ) (s : Setting) → has timer slot ≡ true → slot ≡ Some s → timer ≡ s.timer
timer_in_slot slot timer s held is = sym (eqb-true s.timer timer (sym (ap (has timer) is) ∙ held))

-- a slot is emptied, and its timer has no place
pub cleared_linked : (slots : List (Option Setting)) (places : List (Option ℕ)) (place : ℕ) (s : Setting) → IsLinked slots places → place < length slots → slot_at slots place ≡ Some s
    → IsLinked (set slots place None) (set places s.timer None)
cleared_linked slots places place s linked within is =
    let here = linked.found place s is in
    let exists = place_within places s.timer place here in
    record {
      found = λ other t h. elim (eqb_tells other place) [
        | inl same ↦
            let gone = get_or-set_at slots place other None None same.1 within in
            absurd (cc)
        | inr differs ↦
            let kept : slot_at slots other ≡ Some t = sym (get_or-set_other slots place other None None differs.1) ∙ h in
            let there = linked.found other t kept in
            let apart : t.timer ≢ s.timer = λ same. differs.1 (some_same (sym there ∙ ap (λ timer. get_or places timer None) same ∙ here)) in
            get_or-set_other places s.timer t.timer None None apart ∙ there
      ];
      held = λ timer other h. elim (eqb_tells timer s.timer) [
        | inl same ↦
            let gone = get_or-set_at places s.timer timer None None same.1 exists in
            absurd (cc)
        | inr differs ↦
            let kept : get_or places timer None ≡ Some other = sym (get_or-set_other places s.timer timer None None differs.1) ∙ h in
            let held = linked.held timer other kept in
            let apart : other ≢ place = λ same. differs.1 (timer_in_slot (slot_at slots other) timer s held (ap (slot_at slots) same ∙ is)) in
            ap (has timer) (get_or-set_other slots place other None None apart) ∙ held
      ];
    }

-- a setting of a timer without one is put into an empty slot
pub put_linked : (slots : List (Option Setting)) (places : List (Option ℕ)) (place : ℕ) (s : Setting) → IsLinked slots places → place < length slots → s.timer < length places
    → slot_at slots place ≡ None → HasNone slots s.timer → IsLinked (set slots place (Some s)) (set places s.timer (Some place))
put_linked slots places place s linked within exists is inactive = record {
  found = λ other t h. elim (eqb_tells other place) [
    | inl same ↦
        let there = get_or-set_at slots place other (Some s) None same.1 within in
        let own : t ≡ s = some_same (sym h ∙ there) in
        get_or-set_at places s.timer t.timer (Some place) None (ap (λ (x : Setting). x.timer) own) exists ∙ ap (λ p. Some p) (sym same.1)
    | inr differs ↦
        let kept : slot_at slots other ≡ Some t = sym (get_or-set_other slots place other (Some s) None differs.1) ∙ h in
        let apart : t.timer ≢ s.timer = λ same.
        let yes = has_of (slot_at slots other) t s.timer kept same in
        let no = inactive other in
        absurd (cc) in
        get_or-set_other places s.timer t.timer (Some place) None apart ∙ linked.found other t kept
  ];
  held = λ timer other h. elim (eqb_tells timer s.timer) [
    | inl same ↦
        let there = get_or-set_at places s.timer timer (Some place) None same.1 exists in
        let own : other ≡ place = some_same (sym h ∙ there) in
        has_of (slot_at (set slots place (Some s)) other) s timer (get_or-set_at slots place other (Some s) None own within) (sym same.1)
    | inr differs ↦
        let kept : get_or places timer None ≡ Some other = sym (get_or-set_other places s.timer timer (Some place) None differs.1) ∙ h in
        let held = linked.held timer other kept in
        let apart : other ≢ place = λ same.
        let no : has timer (slot_at slots other) ≡ false = ap (has timer) (ap (slot_at slots) same ∙ is) in
        absurd (cc) in
        ap (has timer) (get_or-set_other slots place other (Some s) None apart) ∙ held
  ];
}

-- a slot and its moment are written
pub set_moments : (slots : List (Option Setting)) (moments : List ℕ) (place : ℕ) (slot : Option Setting) → AreMoments slots moments → place < length slots → place < length moments
    → moment_of slot ≤ NEVER → AreMoments (set slots place slot) (set moments place (moment_of slot))
set_moments slots moments place slot m within within' fits = record {
  same = λ other. elim (eqb_tells other place) [
    | inl same ↦ get_or-set_at moments place other (moment_of slot) NEVER same.1 within' ∙ sym (ap moment_of (get_or-set_at slots place other slot None same.1 within))
    | inr differs ↦ get_or-set_other moments place other (moment_of slot) NEVER differs.1 ∙ m.same other ∙ sym (ap moment_of (get_or-set_other slots place other slot None differs.1))
  ];
  in_range = λ other. elim (eqb_tells other place) [
    | inl same ↦ subst (λ n. n ≤ NEVER) (sym (ap moment_of (get_or-set_at slots place other slot None same.1 within))) fits
    | inr differs ↦ subst (λ n. n ≤ NEVER) (sym (ap moment_of (get_or-set_other slots place other slot None differs.1))) (m.in_range other)
  ];
}

-- how many have something after one is emptied, and after an empty one is filled
pub cleared_count : {X : Type 0} (xs : List (Option X)) (i : ℕ) (x : X) (n : ℕ) → i < length xs → get_or xs i None ≡ Some x → count_by is_some xs ≡ n → count_by is_some (set xs i None) ≡ n - 1
cleared_count {X} xs i x n within is count =
    let f : Option X → ℕ = λ o. cond (is_some o) 1 0 in
    let one : f (get_or xs i None) ≡ 1 = ap f is in
    omega (arith, sum_by-set f xs i None None within, one, count)

-- where one has something, there is at least one that does
pub cleared_some : {X : Type 0} (xs : List (Option X)) (i : ℕ) (x : X) → i < length xs → get_or xs i None ≡ Some x → 0 < count_by is_some xs
cleared_some {X} xs i x within is =
    let f : Option X → ℕ = λ o. cond (is_some o) 1 0 in
    let one : f (get_or xs i None) ≡ 1 = ap f is in
    omega (arith, sum_by-set f xs i None None within, one)

-- one more has something after an empty one is filled
pub put_count : {X : Type 0} (xs : List (Option X)) (i : ℕ) (x : X) (n : ℕ) → i < length xs → get_or xs i None ≡ None → count_by is_some xs ≡ n → count_by is_some (set xs i (Some x)) ≡ n + 1
put_count {X} xs i x n within is count =
    let f : Option X → ℕ = λ o. cond (is_some o) 1 0 in
    let none : f (get_or xs i None) ≡ 0 = ap f is in
    omega (arith, sum_by-set f xs i (Some x) None within, none, count)

abbrev filled_one : Option Setting → ℕ
filled_one o = cond (is_some o) 1 0

-- so many slots are filled as there are settings
pub filled_settings : (slots : List (Option Setting)) → count_by is_some slots ≡ length (settings_in slots)
filled_settings [] = refl
filled_settings (None ∷ slots) = omega (arith, sum_by-cons filled_one None slots, filled_settings slots)
filled_settings (Some s ∷ slots) = omega (arith, sum_by-cons filled_one (Some s) slots, filled_settings slots)

-- lists of the same slots, but for empty ones at the end
pub same_settings : (a b : List (Option Setting)) → ((place : ℕ) → slot_at a place ≡ slot_at b place) → settings_in a ≡ settings_in b
same_settings [] [] same = refl
same_settings [] (y ∷ b) same = same_settings [] b (λ place. same (suc place)) ∙ ap (λ o. cons_option o (settings_in b)) (same 0)
same_settings (x ∷ a) [] same = ap (λ o. cons_option o (settings_in a)) (same 0) ∙ same_settings a [] (λ place. same (suc place))
same_settings (x ∷ a) (y ∷ b) same =
    ap (λ o. cons_option o (settings_in a)) (same 0) ∙ ap (cons_option y) (same_settings a b (λ place. same (suc place)))

-- lists of the same slots have as many settings
pub same_count : (a b : List (Option Setting)) (n : ℕ) → ((place : ℕ) → slot_at a place ≡ slot_at b place) → count_by is_some b ≡ n → count_by is_some a ≡ n
same_count a b n same count = filled_settings a ∙ ap length (same_settings a b same) ∙ sym (filled_settings b) ∙ count

-- lists of the same slots have the same places
pub same_linked : (a b : List (Option Setting)) (places : List (Option ℕ)) → ((place : ℕ) → slot_at a place ≡ slot_at b place) → IsLinked b places → IsLinked a places
same_linked a b places same linked = record {
  found = λ place s is. linked.found place s (sym (same place) ∙ is);
  held = λ timer place is. ap (has timer) (same place) ∙ linked.held timer place is;
}

-- lists of the same slots have the same moments
pub same_moments : (a b : List (Option Setting)) (moments : List ℕ) → ((place : ℕ) → slot_at a place ≡ slot_at b place) → AreMoments b moments → AreMoments a moments
same_moments a b moments same m = record {
  same = λ place. m.same place ∙ sym (ap moment_of (same place));
  in_range = λ place. subst (λ n. n ≤ NEVER) (sym (ap moment_of (same place))) (m.in_range place);
}

-- an empty slot is added, and empty ones are removed
pub pushed_slots : (slots : List (Option Setting)) (place : ℕ) → slot_at (slots ++ None ∷ []) place ≡ slot_at slots place
pushed_slots [] zero = refl
pushed_slots [] (suc place) = refl
pushed_slots (x ∷ slots) zero = refl
pushed_slots (x ∷ slots) (suc place) = pushed_slots slots place

-- the slots stay the same when empty ones at the end are removed
pub taken_slots : (slots : List (Option Setting)) (n : ℕ) → ((place : ℕ) → n ≤ place → slot_at slots place ≡ None) → (place : ℕ) → slot_at (take n slots) place ≡ slot_at slots place
taken_slots slots zero none place = sym (none place (omega arith))
taken_slots [] (suc n) none place = refl
taken_slots (x ∷ slots) (suc n) none zero = refl
taken_slots (x ∷ slots) (suc n) none (suc place) = taken_slots slots n (λ later from. none (suc later) (omega arith)) place

-- the slots behind the settings of packed ones are empty, and the settings are as many
pub packed_empty : (slots : List (Option Setting)) (filled : ℕ) → IsPacked slots filled (length slots) → (place : ℕ) → filled ≤ place → slot_at slots place ≡ None
packed_empty slots filled packed place from = elim (cases_lt place (length slots)) [
  | inl within ↦ packed.empty place from within
  | inr past ↦ get_or_past slots place None past
]

-- packed settings are as many as the slots before the first empty one
pub packed_count : (slots : List (Option Setting)) (filled : ℕ) → ((place : ℕ) → place < filled → is_some (slot_at slots place) ≡ true)
    → ((place : ℕ) → filled ≤ place → slot_at slots place ≡ None) → length (settings_in slots) ≡ filled
packed_count [] zero some none = refl
packed_count [] (suc filled) some none = let first = some 0 (omega arith) in absurd (cc)
packed_count (x ∷ slots) zero some none =
    ap (λ o. length (cons_option o (settings_in slots))) (none 0 (omega arith))
    ∙ packed_count slots zero (λ place below. absurd (omega arith)) (λ place from. none (suc place) (omega arith))
packed_count (None ∷ slots) (suc filled) some none = let first = some 0 (omega arith) in absurd (cc)
packed_count (Some s ∷ slots) (suc filled) some none =
    ap suc (packed_count slots filled (λ place below. some (suc place) (omega arith)) (λ place from. none (suc place) (omega arith)))

-- what reading a slot tells
pub slot_read : (slots : List (Option Setting)) (place : ℕ) (slot : Option Setting) → place < length slots → slot ≡ get_or slots place slot → slot_at slots place ≡ slot
slot_read slots place slot within is = get_or_default slots place None slot within ∙ sym is

-- the timer of a setting in a slot is there
pub exists_known : (slots : List (Option Setting)) (places : List (Option ℕ)) → IsLinked slots places → (place : ℕ) (slot : Option Setting) (count : ℕ) → slot_at slots place ≡ slot → length places ≡ count
    → IfSome slot (λ s. s.timer < count)
exists_known slots places linked place None count is same = tt
exists_known slots places linked place (Some s) count is same =
    omega (arith, place_within places s.timer place (linked.found place s is), same)

no_place_at : (slots : List (Option Setting)) (places : List (Option ℕ)) (timer : ℕ) → IsLinked slots places → HasNone slots timer → (place : Option ℕ) → get_or places timer None ≡ place
    → get_or places timer None ≡ None
no_place_at slots places timer linked none None is = is
no_place_at slots places timer linked none (Some place) is =
    let held = linked.held timer place is in
    let no = none place in
    absurd (cc)

-- a timer that no slot has, has no place
pub no_place : (slots : List (Option Setting)) (places : List (Option ℕ)) (timer : ℕ) → IsLinked slots places → HasNone slots timer → get_or places timer None ≡ None
no_place slots places timer linked none = no_place_at slots places timer linked none (get_or places timer None) refl
