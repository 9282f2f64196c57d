-- What settings, cancelled timers and fired settings keep.
use Rattle.std.proofs.Common.{◌≡◌, ◌≢◌, ℕ, suc, ◌+◌, ◌^◌, ◌<◌, ◌≤◌, inl, inr, leb, Bool, true, false, cond, not, ◌||◌, List, [], ◌∷◌, ◌++◌, Option, Some, None, IfSome, arith, refl, ap, sym, ◌∙◌, subst}
use Rattle.std.proofs.lemmas.Bool.{leb-true}
use Rattle.std.proofs.lemmas.Bool.Decides.{eqb_tells}
use Rattle.std.proofs.lemmas.List.{append-nil}
use Rattle.std.proofs.lemmas.List.Elements.{All-nil, All-cons, All-head, All-tail, All-push, All-filter}
use Rattle.std.proofs.lemmas.List.Kept.{AllPairs-cons, AllPairs-filter}
use Rattle.std.specs.List.{All, AllPairs}
use Rattle.std.specs.Option.{option_map_or}
use Rattle.timer_queue.specs.declared.setting.Setting.{Setting}
use Rattle.timer_queue.specs.Timers.{Timers, is_of, is_active, others, set_at, after_set, after_cancel, first_due, again, after_firing, after_take, IsDuration, IsTimers}

some_same : {X : Type 0} {a b : X} → Some a ≡ Some b → a ≡ b
some_same h = cc

AllPairs-push : {X : Type 0} (R : X → X → Type 0) (xs : List X) (y : X) → AllPairs R xs → All (λ x. R x y) xs → AllPairs R (xs ++ y ∷ [])
AllPairs-push R [] y pairs all = λ i j d before within. absurd (omega arith)
AllPairs-push R (x ∷ xs) y pairs all =
    AllPairs-cons R x (xs ++ y ∷ [])
    (All-push (R x) xs y (λ k d within. pairs 0 (suc k) d (omega arith) (omega arith)) (All-head (λ z. R z y) x xs all))
    (AllPairs-push R xs y (λ i j d before within. pairs (suc i) (suc j) d (omega arith) (omega arith)) (All-tail (λ z. R z y) x xs all))

-- the others are settings of other timers
others_differ : (settings : List Setting) (timer : ℕ) → All (λ s. s.timer ≢ timer) (others settings timer)
others_differ [] timer = All-nil (λ s. s.timer ≢ timer)
others_differ (s ∷ settings) timer = elim (eqb_tells s.timer timer) [
  | inl same ↦
      subst (All (λ s. s.timer ≢ timer)) (sym (ap (λ b. cond (not b) (s ∷ others settings timer) (others settings timer)) same.0)) (others_differ settings timer)
  | inr differs ↦
      subst (All (λ s. s.timer ≢ timer)) (sym (ap (λ b. cond (not b) (s ∷ others settings timer) (others settings timer)) differs.0))
      (All-cons (λ s. s.timer ≢ timer) s (others settings timer) differs.1 (others_differ settings timer))
]

-- of the others none is the timer's
pub others_inactive : (settings : List Setting) (timer : ℕ) → is_active (others settings timer) timer ≡ false
others_inactive [] timer = refl
others_inactive (s ∷ settings) timer = elim (eqb_tells s.timer timer) [
  | inl same ↦ ap (λ b. is_active (cond (not b) (s ∷ others settings timer) (others settings timer)) timer) same.0 ∙ others_inactive settings timer
  | inr differs ↦
      ap (λ b. is_active (cond (not b) (s ∷ others settings timer) (others settings timer)) timer) differs.0
      ∙ ap (λ b. b || is_active (others settings timer) timer) differs.0 ∙ others_inactive settings timer
]

-- timers with the same count and settings
pub same_timers : (a b : Timers) → b.count ≡ a.count → b.settings ≡ a.settings → a ≡ b
same_timers a b count settings =
    let counted : ℕ → Timers = λ n. record { count = n; settings = a.settings } in
    let settled : List Setting → Timers = λ ss. record { count = b.count; settings = ss } in
    ap counted (sym count) ∙ ap settled (sym settings)

-- what is so of timers is so of ones with the same count and settings
pub still_timers : (a b : Timers) → IsTimers a → b.count ≡ a.count → b.settings ≡ a.settings → IsTimers b
still_timers a b valid count settings = subst IsTimers (same_timers a b count settings) valid

-- one timer has a new setting, or none
renewed : (timers : Timers) (s : Setting) → IsTimers timers → s.timer < timers.count → IfSome s.period IsDuration → IsTimers (record timers { settings = others timers.settings s.timer ++ s ∷ [] })
renewed timers s valid exists period = record {
  exist = All-push (λ x. x.timer < timers.count) (others timers.settings s.timer) s (All-filter (λ x. not (is_of s.timer x)) (λ x. x.timer < timers.count) timers.settings valid.exist) exists;
  differ = AllPairs-push (λ a b. a.timer ≢ b.timer) (others timers.settings s.timer) s
      (AllPairs-filter (λ a b. a.timer ≢ b.timer) (λ x. not (is_of s.timer x)) timers.settings valid.differ) (others_differ timers.settings s.timer);
  periods = All-push (λ x. IfSome x.period IsDuration) (others timers.settings s.timer) s
      (All-filter (λ x. not (is_of s.timer x)) (λ x. IfSome x.period IsDuration) timers.settings valid.periods) period;
}

-- a cancelled timer leaves settings of timers
pub IsTimers-after_cancel : (timers : Timers) (timer : ℕ) → IsTimers timers → IsTimers (after_cancel timers timer)
IsTimers-after_cancel timers timer valid = record {
  exist = All-filter (λ x. not (is_of timer x)) (λ x. x.timer < timers.count) timers.settings valid.exist;
  differ = AllPairs-filter (λ a b. a.timer ≢ b.timer) (λ x. not (is_of timer x)) timers.settings valid.differ;
  periods = All-filter (λ x. not (is_of timer x)) (λ x. IfSome x.period IsDuration) timers.settings valid.periods;
}

set_period : (cyclic : Bool) (micros : ℕ) → IsDuration micros → IfSome (cond cyclic (Some micros) None) IsDuration
set_period true micros duration = duration
set_period false micros duration = tt

-- a timer that is set leaves settings of timers
pub IsTimers-after_set : (timers : Timers) (timer now micros : ℕ) (cyclic : Bool) → IsTimers timers → timer < timers.count → IsDuration micros
    → IsTimers (after_set timers timer now micros cyclic)
IsTimers-after_set timers timer now micros cyclic valid exists duration =
    renewed timers (set_at timer now micros cyclic) valid exists (set_period cyclic micros duration)

-- what a setting that is found due keeps
pub record IsFired (timers : Timers) (now : ℕ) (s : Setting) : Type 0 where
  pub exists : s.timer < timers.count
  pub due : s.due ≤ now
  pub period : IfSome s.period IsDuration

found_first : (settings : List Setting) (x : Setting) (count now : ℕ) (s : Setting) → x.timer < count → IfSome x.period IsDuration
    → (first_due settings now ≡ Some s → (s.timer < count) × (s.due ≤ now) × IfSome s.period IsDuration)
    → (b : Bool) → leb x.due now ≡ b → cond (leb x.due now) (Some x) (first_due settings now) ≡ Some s → (s.timer < count) × (s.due ≤ now) × IfSome s.period IsDuration
found_first settings x count now s exists period later true is h =
    let same : x ≡ s = some_same (sym (ap (λ b. cond b (Some x) (first_due settings now)) is) ∙ h) in
    subst (λ (y : Setting). (y.timer < count) × (y.due ≤ now) × IfSome y.period IsDuration) same (exists, leb-true x.due now is, period)
found_first settings x count now s exists period later false is h = later (sym (ap (λ b. cond b (Some x) (first_due settings now)) is) ∙ h)

found : (settings : List Setting) (count now : ℕ) (s : Setting) → All (λ x. x.timer < count) settings → All (λ x. IfSome x.period IsDuration) settings → first_due settings now ≡ Some s
    → (s.timer < count) × (s.due ≤ now) × IfSome s.period IsDuration
found [] count now s exist periods is = absurd (cc)
found (x ∷ settings) count now s exist periods is =
    found_first settings x count now s (All-head (λ x. x.timer < count) x settings exist) (All-head (λ x. IfSome x.period IsDuration) x settings periods)
    (found settings count now s (All-tail (λ x. x.timer < count) x settings exist) (All-tail (λ x. IfSome x.period IsDuration) x settings periods))
    (leb x.due now) refl is

-- the oldest due setting is due, of a timer that is there, and its period is a duration
pub fired_known : (timers : Timers) (now : ℕ) (s : Setting) → IsTimers timers → first_due timers.settings now ≡ Some s → IsFired timers now s
fired_known timers now s valid is =
    let known = found timers.settings timers.count now s valid.exist valid.periods is in
    record { exists = known.0; due = known.1; period = known.2 }

-- the settings that a fired one leaves are those of timers again
renewed_again : (timers : Timers) (s : Setting) → IsTimers timers → s.timer < timers.count → (period : Option ℕ) → s.period ≡ period → IfSome period IsDuration
    → IsTimers (record timers { settings = after_firing timers.settings s })
renewed_again timers s valid exists None is duration =
    subst (λ ss. IsTimers (record timers { settings = ss }))
    (sym (ap (λ p. others timers.settings s.timer ++ option_map_or (λ period. record s { due = s.due + period } ∷ []) p []) is ∙ append-nil (others timers.settings s.timer)))
    (IsTimers-after_cancel timers s.timer valid)
renewed_again timers s valid exists (Some micros) is duration =
    subst (λ ss. IsTimers (record timers { settings = ss }))
    (sym (ap (λ p. others timers.settings s.timer ++ option_map_or (λ period. record s { due = s.due + period } ∷ []) p []) is))
    (renewed timers (record s { due = s.due + micros }) valid exists (subst (λ p. IfSome p IsDuration) (sym is) duration))

-- a fired setting leaves settings of timers
pub IsTimers-after_firing : (timers : Timers) (now : ℕ) (s : Setting) → IsTimers timers → IsFired timers now s → IsTimers (record timers { settings = after_firing timers.settings s })
IsTimers-after_firing timers now s valid fired = renewed_again timers s valid fired.exists s.period refl fired.period

-- after the oldest due setting fired
taken : (timers : Timers) (now : ℕ) → IsTimers timers → (fired : Option Setting) → first_due timers.settings now ≡ fired → IsTimers (after_take timers now)
taken timers now valid None is =
    subst (λ o. IsTimers (record timers { settings = option_map_or (after_firing timers.settings) o timers.settings })) (sym is) valid
taken timers now valid (Some s) is =
    subst (λ o. IsTimers (record timers { settings = option_map_or (after_firing timers.settings) o timers.settings })) (sym is)
    (IsTimers-after_firing timers now s valid (fired_known timers now s valid is))

-- so does the oldest due setting, if there is one
pub IsTimers-after_take : (timers : Timers) (now : ℕ) → IsTimers timers → IsTimers (after_take timers now)
IsTimers-after_take timers now valid = taken timers now valid (first_due timers.settings now) refl

-- a fired setting can be set again
pub period_fits : (period : Option ℕ) (due now : ℕ) → due ≤ now → now ≤ 2 ^ 63 → IfSome period IsDuration → (p : ℕ) → period ≡ Some p → due + p < 2 ^ 64
period_fits None due now earlier in_time duration p is = absurd (cc)
period_fits (Some q) due now earlier in_time duration p is =
    let same : q ≡ p = some_same is in
    omega (arith, duration.1, same)

-- what a setting leaves when it fires, by its period
pub again_none : (s : Setting) (settings : List Setting) → s.period ≡ None → settings ++ again s ≡ settings
again_none s settings is =
    ap (λ p. settings ++ option_map_or (λ period. record s { due = s.due + period } ∷ []) p []) is ∙ append-nil settings

-- a cyclic setting leaves one that is due a period later
pub again_some : (s : Setting) (settings : List Setting) (period : ℕ) → s.period ≡ Some period → settings ++ again s ≡ settings ++ record s { due = s.due + period } ∷ []
again_some s settings period is =
    ap (λ p. settings ++ option_map_or (λ period. record s { due = s.due + period } ∷ []) p []) is
