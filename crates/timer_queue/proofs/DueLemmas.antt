-- The least due moment in slots, and the first setting that is due.
use Rattle.std.proofs.Common.{◌≡◌, ◌≢◌, ℕ, zero, suc, ◌<◌, ◌≤◌, inl, inr, true, false, cond, List, [], ◌∷◌, length, get_or, Option, Some, None, is_some, count_by, min, arith, refl, ap, sym, ◌∙◌, subst}
use Rattle.std.proofs.lemmas.Bool.{cases_lt, lt-leb, le-leb}
use Rattle.std.proofs.lemmas.List.{get_or_past, get_or_default}
use Rattle.std.proofs.Math.Nat.{min-eq_left, min-eq_right}
use Rattle.std.specs.List.{All}
use Rattle.std.specs.Option.{option_map_or}
use Rattle.timer_queue.specs.declared.setting.Setting.{Setting}
use Rattle.timer_queue.specs.declared.minima.TheConstants.{NEVER}
use Rattle.timer_queue.specs.Timers.{is_due, first_due, least_due}
use Rattle.timer_queue.specs.Inside.Minima.{IsFirstUpTo, IsLeast}
use Rattle.timer_queue.specs.Inside.Slots.{settings_in, slot_at, moment_of, AreMoments}
use Rattle.timer_queue.proofs.SlotLemmas.{filled_settings}

abbrev AreInRange : List (Option Setting) → Type 0
AreInRange slots = (place : ℕ) → moment_of (slot_at slots place) ≤ NEVER

-- the least moment in slots
abbrev least_in : List (Option Setting) → ℕ
least_in [] = NEVER
least_in (slot ∷ slots) = min (moment_of slot) (least_in slots)

least_in_range : (slots : List (Option Setting)) → least_in slots ≤ NEVER
least_in_range [] = omega arith
least_in_range (slot ∷ slots) = omega (arith, least_in_range slots)

least_in_none : (slots : List (Option Setting)) → settings_in slots ≡ [] → least_in slots ≡ NEVER
least_in_none [] none = refl
least_in_none (None ∷ slots) none = omega (arith, least_in_none slots none)
least_in_none (Some s ∷ slots) none = absurd (cc)

least_more : (slots : List (Option Setting)) (s : Setting) → s.due ≤ NEVER → (0 < length (settings_in slots) → least_due (settings_in slots) ≡ Some (least_in slots))
    → (rest : List Setting) → settings_in slots ≡ rest → least_due (s ∷ settings_in slots) ≡ Some (min s.due (least_in slots))
least_more slots s fits more [] is =
    let none = least_in_none slots is in
    ap (λ (o : Option ℕ). Some (option_map_or (min s.due) o s.due)) (ap least_due is) ∙ ap (λ n. Some n) (sym (min-eq_left {n = s.due} {m = least_in slots} (omega (arith, none, fits))))
least_more slots s fits more (t ∷ rest) is =
    let some : 0 < length (settings_in slots) = subst (λ (ss : List Setting). 0 < length ss) (sym is) (omega arith) in
    ap (λ (o : Option ℕ). Some (option_map_or (min s.due) o s.due)) (more some)

least_due_is : (slots : List (Option Setting)) → AreInRange slots → 0 < length (settings_in slots) → least_due (settings_in slots) ≡ Some (least_in slots)
least_due_is [] range some = absurd (omega arith)
least_due_is (None ∷ slots) range some =
    least_due_is slots (λ place. range (suc place)) some ∙ ap (λ n. Some n) (sym (min-eq_right {n = least_in slots} {m = NEVER} (least_in_range slots)))
least_due_is (Some s ∷ slots) range some =
    least_more slots s (range 0) (least_due_is slots (λ place. range (suc place))) (settings_in slots) refl

-- the least moment is at most each, and what is at most each is at most the least
least_in_le : (slots : List (Option Setting)) (place : ℕ) → AreInRange slots → least_in slots ≤ moment_of (slot_at slots place)
least_in_le [] place range = omega arith
least_in_le (slot ∷ slots) zero range = omega arith
least_in_le (slot ∷ slots) (suc place) range = omega (arith, least_in_le slots place (λ p. range (suc p)))

le_least_in : (slots : List (Option Setting)) (n : ℕ) → n ≤ NEVER → ((place : ℕ) → n ≤ moment_of (slot_at slots place)) → n ≤ least_in slots
le_least_in [] n fits below = fits
le_least_in (slot ∷ slots) n fits below = omega (arith, below 0, le_least_in slots n fits (λ place. below (suc place)))

least_is : (slots : List (Option Setting)) (moments : List ℕ) (least : ℕ) → AreMoments slots moments → IsLeast moments least → least_in slots ≡ least
least_is slots moments least m is =
    let k = is.among.0 in
    let here : moment_of (slot_at slots k) ≡ least = sym (m.same k) ∙ get_or_default moments k NEVER least is.among.1 ∙ is.among.2 in
    let upper : least_in slots ≤ least = omega (arith, least_in_le slots k m.in_range, here) in
    let fits : least ≤ NEVER = omega (arith, m.in_range k, here) in
    let lower : least ≤ least_in slots = le_least_in slots least fits (λ place. elim (cases_lt place (length moments)) [
      | inl within ↦ omega (arith, is.least place NEVER within, m.same place)
      | inr past ↦ omega (arith, get_or_past moments place NEVER past, m.same place, fits)
    ]) in
    omega (arith, upper, lower)

-- the least moment is the least due moment, where there is a setting
pub next_due_some : (slots : List (Option Setting)) (moments : List ℕ) (least : ℕ) → AreMoments slots moments → IsLeast moments least → count_by is_some slots ≢ 0
    → least_due (settings_in slots) ≡ Some least
next_due_some slots moments least m is some =
    let more : 0 < length (settings_in slots) = omega (arith, filled_settings slots, some) in
    least_due_is slots m.in_range more ∙ ap (λ n. Some n) (least_is slots moments least m is)

least_due_of_none : (settings : List Setting) → length settings ≡ 0 → least_due settings ≡ None
least_due_of_none [] none = refl
least_due_of_none (s ∷ settings) none = absurd (omega arith)

-- without a filled slot there is no due moment
pub next_due_none : (slots : List (Option Setting)) → count_by is_some slots ≡ 0 → least_due (settings_in slots) ≡ None
next_due_none slots none = least_due_of_none (settings_in slots) (sym (filled_settings slots) ∙ none)

-- there is no least due moment exactly where there is no setting
pub least_due_none : (settings : List Setting) → ((is_some (least_due settings) ≡ false) → settings ≡ []) × (settings ≡ [] → is_some (least_due settings) ≡ false)
least_due_none [] = (λ _. refl, λ _. refl)
least_due_none (s ∷ settings) = (λ h. absurd (cc), λ h. absurd (cc))

not_due : (s : Setting) (now : ℕ) → now < s.due → is_due now s ≡ false
not_due s now later = lt-leb s.due now later

due_now : (s : Setting) (now : ℕ) → s.due ≤ now → is_due now s ≡ true
due_now s now earlier = le-leb s.due now earlier

none_due : (slots : List (Option Setting)) (now : ℕ) → ((place : ℕ) → now < moment_of (slot_at slots place)) → first_due (settings_in slots) now ≡ None
none_due [] now later = refl
none_due (None ∷ slots) now later = none_due slots now (λ place. later (suc place))
none_due (Some s ∷ slots) now later =
    ap (λ b. cond b (Some s) (first_due (settings_in slots) now)) (not_due s now (later 0)) ∙ none_due slots now (λ place. later (suc place))

due_at : (slots : List (Option Setting)) (now place : ℕ) → now < NEVER → moment_of (slot_at slots place) ≤ now → ((before : ℕ) → before < place → now < moment_of (slot_at slots before))
    → first_due (settings_in slots) now ≡ slot_at slots place
due_at [] now place ends due first = absurd (omega arith)
due_at (None ∷ slots) now zero ends due first = absurd (omega arith)
due_at (Some s ∷ slots) now zero ends due first = ap (λ b. cond b (Some s) (first_due (settings_in slots) now)) (due_now s now due)
due_at (None ∷ slots) now (suc place) ends due first = due_at slots now place ends due (λ before early. first (suc before) (omega arith))
due_at (Some s ∷ slots) now (suc place) ends due first =
    ap (λ b. cond b (Some s) (first_due (settings_in slots) now)) (not_due s now (first 0 (omega arith)))
    ∙ due_at slots now place ends due (λ before early. first (suc before) (omega arith))

-- where no moment is reached, no setting is due
pub first_due_none : (slots : List (Option Setting)) (moments : List ℕ) (now : ℕ) → now < NEVER → AreMoments slots moments → All (λ moment. now < moment) moments
    → first_due (settings_in slots) now ≡ None
first_due_none slots moments now ends m later = none_due slots now (λ place. elim (cases_lt place (length moments)) [
  | inl within ↦ omega (arith, later place NEVER within, m.same place)
  | inr past ↦ omega (arith, get_or_past moments place NEVER past, m.same place, ends)
])

-- the first slot whose moment is reached has the first due setting
pub first_due_some : (slots : List (Option Setting)) (moments : List ℕ) (now place : ℕ) → now < NEVER → AreMoments slots moments → IsFirstUpTo moments now place
    → first_due (settings_in slots) now ≡ slot_at slots place
first_due_some slots moments now place ends m up =
    let moment : (p : ℕ) → p < length moments → get_or moments p 0 ≡ moment_of (slot_at slots p) = λ p within. get_or_default moments p 0 NEVER within ∙ m.same p in
    due_at slots now place ends (omega (arith, up.reached, moment place up.within))
    (λ before early. omega (arith, up.first before early, moment before (omega (arith, up.within, early))))

-- the first place whose moment is reached is that of a slot
pub due_within : (slots : List (Option Setting)) (moments : List ℕ) (now place : ℕ) → now < NEVER → AreMoments slots moments → IsFirstUpTo moments now place → place < length slots
due_within slots moments now place ends m up = elim (cases_lt place (length slots)) [
  | inl within ↦ within
  | inr past ↦
      let empty = ap moment_of (get_or_past slots place None past) in
      absurd (omega (arith, up.reached, get_or_default moments place 0 NEVER up.within, m.same place, empty, ends))
]
