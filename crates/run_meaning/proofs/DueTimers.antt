-- How many timers are due: each task of a due timer leaves fewer, and no task leaves more.
use Rattle.std.proofs.Common.{◌≡◌, ℕ, ◌+◌, ◌<◌, ◌≤◌, inl, inr, Bool, true, false, cond, not, List, [], ◌∷◌, ◌++◌, Option, Some, None, All, refl, ap, sym, subst, ◌∙◌, arith, filter}
use Rattle.std.specs.Prelude.{if◌then◌else◌, IfSome}
use Rattle.std.specs.Option.{option_map_or}
use Rattle.std.proofs.lemmas.Bool.Decides.{leb_tells}
use Rattle.std.proofs.lemmas.Cmp.{nat_eq_equiv}
use Rattle.std.proofs.lemmas.List.Elements.{All-head, All-tail}
use Rattle.run_effects.specs.Effect.{Effect, Line, Send, Stop, Set, Cancel}
use Rattle.timer_queue.specs.declared.setting.Setting.{Setting}
use Rattle.timer_queue.specs.Timers.{IsDuration, IsTimers, Timers, after_firing, after_take, again, first_due, is_due, is_of, others, set_at}
use Rattle.node_rounds.specs.declared.occurrence.Occurrence.{Occurrence}
use Rattle.node_rounds.specs.declared.occurrence.Occurrence.TheVariants as happens
use Rattle.node_rounds.specs.Effects.{IsTimerEffect, timers_after, timers_after_one}
use Rattle.node_rounds.specs.Reaction.{NoneOverdue, timers_at_begin}

-- how many settings are due at a moment
abbrev pub dues : ℕ → List Setting → ℕ
dues now [] = 0
dues now (s ∷ settings) = (if is_due now s then 1 else 0) + dues now settings

dues_filter : (now : ℕ) (test : Setting → Bool) (settings : List Setting) → dues now (filter test settings) ≤ dues now settings
dues_filter now test [] = omega arith
dues_filter now test (s ∷ settings) = go (test s) (dues_filter now test settings)
  where
    go : (b : Bool) → dues now (filter test settings) ≤ dues now settings → dues now (cond b (s ∷ filter test settings) (filter test settings)) ≤ (if is_due now s then 1 else 0) + dues now settings
    go true less = omega (arith, less)
    go false less = omega (arith, less)

dues_joined : (now : ℕ) (xs ys : List Setting) → dues now (xs ++ ys) ≡ dues now xs + dues now ys
dues_joined now [] ys = omega arith
dues_joined now (s ∷ xs) ys = let more = dues_joined now xs ys in omega (arith, more)

not_due : (now : ℕ) (s : Setting) → now < s.due → is_due now s ≡ false
not_due now s later = elim (leb_tells s.due now) [ inl due ↦ absurd (omega (arith, later, due.1)) | inr late ↦ late.0 ]

one_later : (now : ℕ) (s : Setting) → now < s.due → dues now (s ∷ []) ≡ 0
one_later now s later = ap (λ b. (if b then 1 else 0) + 0) (not_due now s later)

-- ---- effects

effect_dues : (now : ℕ) (timers : Timers) (effect : Effect) → IsTimerEffect timers.count effect → dues now (timers_after_one now timers effect).settings ≤ dues now timers.settings
effect_dues now timers (Line text) is = omega arith
effect_dues now timers (Send frame) is = omega arith
effect_dues now timers Stop is = omega arith
effect_dues now timers (Set timer micros cyclic) is =
    let fewer = dues_filter now (λ s. not (is_of timer s)) timers.settings in
    let some : 0 < micros = is.1.0 in
    let none : dues now (set_at timer now micros cyclic ∷ []) ≡ 0 = one_later now (set_at timer now micros cyclic) (omega (arith, some)) in
    let all = dues_joined now (others timers.settings timer) (set_at timer now micros cyclic ∷ []) in
    omega (arith, fewer, none, all)
effect_dues now timers (Cancel timer) is = dues_filter now (λ s. not (is_of timer s)) timers.settings

effect_count : (now : ℕ) (timers : Timers) (effect : Effect) → (timers_after_one now timers effect).count ≡ timers.count
effect_count now timers (Line text) = refl
effect_count now timers (Send frame) = refl
effect_count now timers Stop = refl
effect_count now timers (Set timer micros cyclic) = refl
effect_count now timers (Cancel timer) = refl

-- the effects of a run leave as many timers
pub effects_count : (now : ℕ) (effects : List Effect) (timers : Timers) → (timers_after now timers effects).count ≡ timers.count
effects_count now [] timers = refl
effects_count now (effect ∷ effects) timers = effects_count now effects (timers_after_one now timers effect) ∙ effect_count now timers effect

-- the effects of a run leave no more timers due
pub effects_dues : (now : ℕ) (effects : List Effect) (timers : Timers) → All (IsTimerEffect timers.count) effects → dues now (timers_after now timers effects).settings ≤ dues now timers.settings
effects_dues now [] timers are = omega arith
effects_dues now (effect ∷ effects) timers are =
    let one = effect_dues now timers effect (All-head (IsTimerEffect timers.count) effect effects are) in
    let more = effects_dues now effects (timers_after_one now timers effect)
    (subst (λ n. All (IsTimerEffect n) effects) (sym (effect_count now timers effect)) (All-tail (IsTimerEffect timers.count) effect effects are)) in
    omega (arith, one, more)

-- ---- a timer that fires

-- what is known of the setting that fires
record Fires (P : Setting → Type 0) (now : ℕ) (settings : List Setting) (fired : Setting) : Type 0 where
  holds : P fired
  fewer : dues now (others settings fired.timer) < dues now settings

fires_first : (P : Setting → Type 0) (now : ℕ) (s : Setting) (settings : List Setting) → P s → is_due now s ≡ true → Fires P now (s ∷ settings) s
fires_first P now s settings p due = record {
  holds = p;
  fewer =
      let own : not (is_of s.timer s) ≡ false = ap not (nat_eq_equiv.refl s.timer) in
      let left : dues now (others (s ∷ settings) s.timer) ≡ dues now (others settings s.timer) =
      ap (λ b. dues now (cond b (s ∷ others settings s.timer) (others settings s.timer))) own in
      let fewer = dues_filter now (λ x. not (is_of s.timer x)) settings in
      let here : dues now (s ∷ settings) ≡ 1 + dues now settings = ap (λ b. (if b then 1 else 0) + dues now settings) due in
      omega (arith, left, fewer, here);
}

fires_later : (P : Setting → Type 0) (now : ℕ) (s : Setting) (settings : List Setting) (fired : Setting) → is_due now s ≡ false → Fires P now settings fired → Fires P now (s ∷ settings) fired
fires_later P now s settings fired late is = record {
  holds = is.holds;
  fewer = go (not (is_of fired.timer s)) is.fewer;
}
  where
    go : (b : Bool) → dues now (others settings fired.timer) < dues now settings → dues now (cond b (s ∷ others settings fired.timer) (others settings fired.timer)) < (if is_due now s then 1 else 0) + dues now settings
    go true less = omega (arith, less)
    go false less = omega (arith, less)

fires : (P : Setting → Type 0) (now : ℕ) (settings : List Setting) (fired : Setting) → All P settings → first_due settings now ≡ Some fired → Fires P now settings fired
fires P now [] fired all is = absurd (let f : None ≡ Some fired = is in cc)
fires P now (s ∷ settings) fired all is = go (is_due now s) refl is (λ found. fires P now settings fired (All-tail P s settings all) found)
  where
    go : (b : Bool) → is_due now s ≡ b → cond b (Some s) (first_due settings now) ≡ Some fired → (first_due settings now ≡ Some fired → Fires P now settings fired) → Fires P now (s ∷ settings) fired
    go true due found more =
        let f : Some s ≡ Some fired = found in let same : s ≡ fired = cc in
        subst (Fires P now (s ∷ settings)) same (fires_first P now s settings (All-head P s settings all) due)
    go false late found more = fires_later P now s settings fired late (more found)

again_later : (now : ℕ) (fired : Setting) (period : Option ℕ) → fired.period ≡ period → now ≤ fired.due → IfSome period IsDuration → dues now (again fired) ≡ 0
again_later now fired None is on_time duration = ap (λ (o : Option ℕ). dues now (option_map_or (λ p. record fired { due = fired.due + p } ∷ []) o [])) is
again_later now fired (Some p) is on_time duration =
    let some : 0 < p = duration.0 in
    ap (λ (o : Option ℕ). dues now (option_map_or (λ p. record fired { due = fired.due + p } ∷ []) o [])) is
    ∙ one_later now (record fired { due = fired.due + p }) (omega (arith, on_time, some))

-- after a due timer fired, fewer are due
pub taken_dues : (now : ℕ) (timers : Timers) → IsTimers timers → NoneOverdue now timers → (fired : Setting) → first_due timers.settings now ≡ Some fired
    → dues now (after_take timers now).settings < dues now timers.settings
taken_dues now timers valid on_time fired is =
    let known = fires (λ s. now ≤ s.due) now timers.settings fired on_time is in
    let period = fires (λ s. IfSome s.period IsDuration) now timers.settings fired valid.periods is in
    let less = known.fewer in
    let none = again_later now fired fired.period refl known.holds period.holds in
    let all = dues_joined now (others timers.settings fired.timer) (again fired) in
    subst (λ (o : Option Setting). dues now (option_map_or (after_firing timers.settings) o timers.settings) < dues now timers.settings) (sym is) (omega (arith, less, none, all))

-- when a task begins no more are due
pub begin_dues : (occurrence : Occurrence) (now : ℕ) (timers : Timers) → IsTimers timers → NoneOverdue now timers → dues now (timers_at_begin occurrence now timers).settings ≤ dues now timers.settings
begin_dues happens.PreStart now timers valid on_time = omega arith
begin_dues happens.Start now timers valid on_time = omega arith
begin_dues happens.Stop now timers valid on_time = omega arith
begin_dues (happens.Frame seen) now timers valid on_time = omega arith
begin_dues (happens.Key key) now timers valid on_time = omega arith
begin_dues (happens.Timer timer) now timers valid on_time = go (first_due timers.settings now) refl
  where
    go : (o : Option Setting) → first_due timers.settings now ≡ o → dues now (after_take timers now).settings ≤ dues now timers.settings
    go None is = subst (λ (o : Option Setting). dues now (option_map_or (after_firing timers.settings) o timers.settings) ≤ dues now timers.settings) (sym is) (omega arith)
    go (Some fired) is = let less = taken_dues now timers valid on_time fired is in omega (arith, less)
