-- What removing, adding and moving settings in slots means for the list of the settings.
use Rattle.std.proofs.Common.{◌≡◌, ◌≢◌, ℕ, zero, suc, ◌+◌, ◌<◌, ◌≤◌, inl, inr, eqb, true, false, cond, not, ◌||◌, List, [], ◌∷◌, ◌++◌, length, Option, Some, None, is_some, MatchOption, arith, refl, ap, sym, ◌∙◌}
use Rattle.std.proofs.Math.ListN.{set}
use Rattle.std.proofs.Math.Seq.{set-append_seam}
use Rattle.std.proofs.Math.Bool.{or-true}
use Rattle.std.proofs.lemmas.Bool.Decides.{eqb_tells}
use Rattle.std.proofs.lemmas.List.{get_or-set_other, length-set}
use Rattle.std.proofs.lemmas.List.Elements.{filter_map-append}
use Rattle.std.proofs.lemmas.Grind.{get_or-set_at}
use Rattle.std.specs.List.{cons_option}
use Rattle.timer_queue.specs.declared.setting.Setting.{Setting}
use Rattle.timer_queue.specs.Timers.{is_active, others}
use Rattle.timer_queue.specs.Inside.Slots.{settings_in, slot_at, has, HasNone, IsPlaceOf, IsPacked}
use Rattle.timer_queue.proofs.SlotLemmas.{not_true}

later_place : (slot : Option Setting) (slots : List (Option Setting)) (timer place : ℕ) → IsPlaceOf (slot ∷ slots) timer (suc place) → IsPlaceOf slots timer place
later_place slot slots timer place own = record { held = own.held; only = λ other h. let same = own.only (suc other) h in omega arith }

before_it : (a b : ℕ) → a < b + 1 → a ≢ b → a < b
before_it a b below differs = omega arith

-- without a setting of the timer all settings are those of others
pub others_all : (slots : List (Option Setting)) (timer : ℕ) → HasNone slots timer → settings_in slots ≡ others (settings_in slots) timer
others_all [] timer none = refl
others_all (None ∷ slots) timer none = others_all slots timer (λ place. none (suc place))
others_all (Some s ∷ slots) timer none =
    ap (λ ss. s ∷ ss) (others_all slots timer (λ place. none (suc place)))
    ∙ sym (ap (λ b. cond (not b) (s ∷ others (settings_in slots) timer) (others (settings_in slots) timer)) (none 0))

-- with the timer's slot emptied the settings are those of others
pub others_cleared : (slots : List (Option Setting)) (timer place : ℕ) → IsPlaceOf slots timer place → settings_in (set slots place None) ≡ others (settings_in slots) timer
others_cleared [] timer place own = let held = own.held in absurd (cc)
others_cleared (None ∷ slots) timer zero own = let held = own.held in absurd (cc)
others_cleared (Some s ∷ slots) timer zero own =
    others_all slots timer (λ place. not_true (has timer (slot_at slots place)) (λ h. let later = own.only (suc place) h in omega arith))
    ∙ sym (ap (λ b. cond (not b) (s ∷ others (settings_in slots) timer) (others (settings_in slots) timer)) own.held)
others_cleared (None ∷ slots) timer (suc place) own = others_cleared slots timer place (later_place None slots timer place own)
others_cleared (Some s ∷ slots) timer (suc place) own =
    let differs : eqb s.timer timer ≡ false = not_true (eqb s.timer timer) (λ h. let first = own.only 0 h in omega arith) in
    ap (λ ss. s ∷ ss) (others_cleared slots timer place (later_place (Some s) slots timer place own))
    ∙ sym (ap (λ b. cond (not b) (s ∷ others (settings_in slots) timer) (others (settings_in slots) timer)) differs)

-- no slot has the timer once its own is emptied
pub none_cleared : (slots : List (Option Setting)) (timer place : ℕ) → place < length slots → IsPlaceOf slots timer place → HasNone (set slots place None) timer
none_cleared slots timer place within own other = elim (eqb_tells other place) [
  | inl same ↦ ap (has timer) (get_or-set_at slots place other None None same.1 within)
  | inr differs ↦
      ap (has timer) (get_or-set_other slots place other None None differs.1)
      ∙ not_true (has timer (slot_at slots other)) (λ h. differs.1 (own.only other h))
]

-- whether a timer is active is whether a slot has it
some_active : (slots : List (Option Setting)) (timer place : ℕ) → has timer (slot_at slots place) ≡ true → is_active (settings_in slots) timer ≡ true
some_active [] timer place h = absurd (cc)
some_active (None ∷ slots) timer zero h = absurd (cc)
some_active (Some s ∷ slots) timer zero h = ap (λ b. b || is_active (settings_in slots) timer) h
some_active (None ∷ slots) timer (suc place) h = some_active slots timer place h
some_active (Some s ∷ slots) timer (suc place) h = ap (λ b. eqb s.timer timer || b) (some_active slots timer place h) ∙ or-true (eqb s.timer timer)

none_active : (slots : List (Option Setting)) (timer : ℕ) → HasNone slots timer → is_active (settings_in slots) timer ≡ false
none_active [] timer none = refl
none_active (None ∷ slots) timer none = none_active slots timer (λ place. none (suc place))
none_active (Some s ∷ slots) timer none = ap (λ b. b || is_active (settings_in slots) timer) (none 0) ∙ none_active slots timer (λ place. none (suc place))

-- a timer is active where it has a place
pub active_known : (slots : List (Option Setting)) (timer : ℕ) (place : Option ℕ) → MatchOption place (HasNone slots timer) (IsPlaceOf slots timer) → is_some place ≡ is_active (settings_in slots) timer
active_known slots timer None none = sym (none_active slots timer none)
active_known slots timer (Some place) own = sym (some_active slots timer place own.held)

-- no slot has an inactive timer
pub inactive_none : (slots : List (Option Setting)) (timer : ℕ) → is_active (settings_in slots) timer ≡ false → HasNone slots timer
inactive_none slots timer inactive place = not_true (has timer (slot_at slots place)) (λ h. let active = some_active slots timer place h in cc)

-- a setting put into the last slot, which was empty, is the newest
pub added : (slots : List (Option Setting)) (s : Setting) → settings_in (set (slots ++ None ∷ []) (length slots) (Some s)) ≡ settings_in slots ++ s ∷ []
added slots s = ap settings_in (set-append_seam slots None [] (Some s)) ∙ filter_map-append (λ (slot : Option Setting). slot) slots (Some s ∷ [])

-- a setting moved over empty slots to the front
moved_first : (slots : List (Option Setting)) (from : ℕ) (s : Setting) → slot_at slots from ≡ Some s → ((k : ℕ) → k < from → slot_at slots k ≡ None)
    → settings_in slots ≡ s ∷ settings_in (set slots from None)
moved_first [] from s is none = absurd (cc)
moved_first (x ∷ slots) zero s is none = ap (λ o. cons_option o (settings_in slots)) is
moved_first (x ∷ slots) (suc from) s is none =
    let empty : x ≡ None = none 0 (omega arith) in
    ap (λ o. cons_option o (settings_in slots)) empty
    ∙ moved_first slots from s is (λ k below. none (suc k) (omega arith))
    ∙ ap (λ o. s ∷ cons_option o (settings_in (set slots from None))) (sym empty)

-- the settings stay the same when one moves over empty slots
pub moved : (slots : List (Option Setting)) (to from : ℕ) (s : Setting) → to ≤ from → slot_at slots from ≡ Some s → ((k : ℕ) → to ≤ k → k < from → slot_at slots k ≡ None)
    → settings_in (set (set slots from None) to (Some s)) ≡ settings_in slots
moved [] to from s le is none = absurd (cc)
moved (x ∷ slots) zero zero s le is none = sym (ap (λ o. cons_option o (settings_in slots)) is)
moved (x ∷ slots) zero (suc from) s le is none =
    let empty : x ≡ None = none 0 (omega arith) (omega arith) in
    sym (ap (λ o. cons_option o (settings_in slots)) empty ∙ moved_first slots from s is (λ k below. none (suc k) (omega arith) (omega arith)))
moved (x ∷ slots) (suc to) zero s le is none = absurd (omega arith)
moved (x ∷ slots) (suc to) (suc from) s le is none =
    ap (cons_option x) (moved slots to from s (omega arith) is (λ k above below. none (suc k) (omega arith) (omega arith)))

-- packed slots with one more slot looked at
pub packed_begins : (slots : List (Option Setting)) → IsPacked slots 0 0
packed_begins slots = record { within = omega arith; settings = λ place below. absurd (omega arith); empty = λ place from below. absurd (omega arith) }

-- an empty slot is passed over
pub packed_skips : (slots : List (Option Setting)) (filled place : ℕ) → IsPacked slots filled place → slot_at slots place ≡ None → IsPacked slots filled (place + 1)
packed_skips slots filled place packed is = record {
  within = omega (arith, packed.within);
  settings = packed.settings;
  empty = λ other from below. elim (eqb_tells other place) [
    | inl same ↦ ap (slot_at slots) same.1 ∙ is
    | inr differs ↦ packed.empty other from (before_it other place below differs.1)
  ];
}

-- there is room behind the packed settings once the slot is emptied
pub packed_room : (slots : List (Option Setting)) (filled place : ℕ) → IsPacked slots filled place → place < length slots → slot_at (set slots place None) filled ≡ None
packed_room slots filled place packed within = elim (eqb_tells filled place) [
  | inl same ↦ get_or-set_at slots place filled None None same.1 within
  | inr differs ↦ get_or-set_other slots place filled None None differs.1 ∙ packed.empty filled (omega arith) (before_it filled place (omega (arith, packed.within)) differs.1)
]

-- one more setting is packed
pub packed_moves : (slots : List (Option Setting)) (filled place : ℕ) (s : Setting) → IsPacked slots filled place → place < length slots
    → IsPacked (set (set slots place None) filled (Some s)) (filled + 1) (place + 1)
packed_moves slots filled place s packed within =
    let cleared = set slots place None in
    let room : filled < length cleared = omega (arith, packed.within, within, length-set slots place None) in
    record {
      within = omega (arith, packed.within);
      settings = λ other below. elim (eqb_tells other filled) [
        | inl same ↦ ap is_some (get_or-set_at cleared filled other (Some s) None same.1 room)
        | inr differs ↦
            let before = before_it other filled below differs.1 in
            let apart : other ≢ place = λ same. omega (arith, packed.within, before, same) in
            ap is_some (get_or-set_other cleared filled other (Some s) None differs.1 ∙ get_or-set_other slots place other None None apart)
            ∙ packed.settings other before
      ];
      empty = λ other from below.
          let apart : other ≢ filled = λ same. omega (arith, from, same) in
          get_or-set_other cleared filled other (Some s) None apart ∙ elim (eqb_tells other place) [
            | inl same ↦ get_or-set_at slots place other None None same.1 within
            | inr differs ↦ get_or-set_other slots place other None None differs.1
                ∙ packed.empty other (omega (arith, from)) (before_it other place below differs.1)
          ];
    }
