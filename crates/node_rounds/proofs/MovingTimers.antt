-- A task leaves each timer as it was or sets it to be due later.
use Rattle.std.proofs.Common.{◌≡◌, ◌≢◌, ℕ, ◌+◌, ◌<◌, ◌≤◌, inl, inr, ◌⊎◌, leb, Bool, true, false, cond, not, List, [], ◌∷◌, ◌++◌, Option, None, Some, IfSome, arith, refl, ap, sym, subst, ◌∙◌}
use Rattle.std.specs.List.{All, Contains}
use Rattle.std.specs.Option.{option_map_or, MatchOption}
use Rattle.std.proofs.lemmas.Bool.Decides.{eqb_tells}
use Rattle.std.proofs.lemmas.List.Elements.{All-contains_itself, All-head, All-tail, All-push, All-filter, filter_passes}
use Rattle.run_effects.specs.Effect.{Effect, Line, Send, Stop, Set, Cancel}
use Rattle.timer_queue.specs.declared.setting.Setting.{Setting}
use Rattle.timer_queue.specs.Timers.{Timers, IsDuration, IsTimers, after_firing, after_take, again, first_due, is_of, others, set_at}
use Rattle.timer_queue.proofs.TimersLemmas.{IsTimers-after_cancel, IsTimers-after_set, IsTimers-after_take, again_none, again_some, fired_known}
use Rattle.node_rounds.specs.declared.occurrence.Occurrence.{Occurrence}
use Rattle.node_rounds.specs.declared.occurrence.Occurrence.TheVariants as happens
use Rattle.node_rounds.specs.Effects.{IsTimerEffect, timers_after, timers_after_one}
use Rattle.node_rounds.specs.Reaction.{AreSetLater, Done, DoesProcedure, MovesTimers, NodeState, NoneOverdue, Runner, reaction_of, timers_at_begin, without_procedure}

-- ---- effects

-- what holds of all settings, and of each that is due later, holds of them after an effect
all_after_one : (P : Setting → Type 0) (now : ℕ) → ((s : Setting) → now < s.due → P s) → (timers : Timers) (effect : Effect) → IsTimerEffect timers.count effect
    → All P timers.settings → All P (timers_after_one now timers effect).settings
all_after_one P now later timers (Line text) is all = all
all_after_one P now later timers (Send frame) is all = all
all_after_one P now later timers Stop is all = all
all_after_one P now later timers (Set timer micros cyclic) is all =
    let above : 0 < micros = is.1.0 in
    All-push P (others timers.settings timer) (set_at timer now micros cyclic)
    (All-filter (λ s. not (is_of timer s)) P timers.settings all)
    (later (set_at timer now micros cyclic) (omega arith))
all_after_one P now later timers (Cancel timer) is all = All-filter (λ s. not (is_of timer s)) P timers.settings all

-- an effect keeps how many timers there are
count_after_one : (now : ℕ) (timers : Timers) (effect : Effect) → (timers_after_one now timers effect).count ≡ timers.count
count_after_one now timers (Line text) = refl
count_after_one now timers (Send frame) = refl
count_after_one now timers Stop = refl
count_after_one now timers (Set timer micros cyclic) = refl
count_after_one now timers (Cancel timer) = refl

-- and after all effects
all_after : (P : Setting → Type 0) (now : ℕ) → ((s : Setting) → now < s.due → P s) → (effects : List Effect) (timers : Timers) → All (IsTimerEffect timers.count) effects
    → All P timers.settings → All P (timers_after now timers effects).settings
all_after P now later [] timers are all = all
all_after P now later (effect ∷ effects) timers are all =
    all_after P now later effects (timers_after_one now timers effect)
    (subst (λ n. All (IsTimerEffect n) effects) (sym (count_after_one now timers effect)) (All-tail (IsTimerEffect timers.count) effect effects are))
    (all_after_one P now later timers effect (All-head (IsTimerEffect timers.count) effect effects are) all)

-- settings are those of timers after an effect
valid_after_one : (now : ℕ) (timers : Timers) (effect : Effect) → IsTimerEffect timers.count effect → IsTimers timers → IsTimers (timers_after_one now timers effect)
valid_after_one now timers (Line text) is valid = valid
valid_after_one now timers (Send frame) is valid = valid
valid_after_one now timers Stop is valid = valid
valid_after_one now timers (Set timer micros cyclic) is valid = IsTimers-after_set timers timer now micros cyclic valid is.0 is.1
valid_after_one now timers (Cancel timer) is valid = IsTimers-after_cancel timers timer valid

-- settings are those of timers after effects
pub valid_after : (now : ℕ) (effects : List Effect) (timers : Timers) → All (IsTimerEffect timers.count) effects → IsTimers timers → IsTimers (timers_after now timers effects)
valid_after now [] timers are valid = valid
valid_after now (effect ∷ effects) timers are valid =
    valid_after now effects (timers_after_one now timers effect)
    (subst (λ n. All (IsTimerEffect n) effects) (sym (count_after_one now timers effect)) (All-tail (IsTimerEffect timers.count) effect effects are))
    (valid_after_one now timers effect (All-head (IsTimerEffect timers.count) effect effects are) valid)

-- ---- a timer that fires

some_same : {X : Type 0} {a b : X} → Some a ≡ Some b → a ≡ b
some_same h = cc

found_there : (P : Setting → Type 0) (now : ℕ) (s : Setting) (settings : List Setting) (fired : Setting) → P s → (first_due settings now ≡ Some fired → P fired)
    → (b : Bool) → leb s.due now ≡ b → cond (leb s.due now) (Some s) (first_due settings now) ≡ Some fired → P fired
found_there P now s settings fired here later true due is =
    subst P (some_same (sym (ap (λ b. cond b (Some s) (first_due settings now)) due) ∙ is)) here
found_there P now s settings fired here later false due is = later (sym (ap (λ b. cond b (Some s) (first_due settings now)) due) ∙ is)

-- what holds of all settings holds of the one that fires
found_keeps : (P : Setting → Type 0) (now : ℕ) (settings : List Setting) (fired : Setting) → All P settings → first_due settings now ≡ Some fired → P fired
found_keeps P now [] fired all is = absurd (cc)
found_keeps P now (s ∷ settings) fired all is =
    found_there P now s settings fired (All-head P s settings all) (found_keeps P now settings fired (All-tail P s settings all)) (leb s.due now) refl is

-- what is left of all settings and what a fired one leaves
all_again : (P : Setting → Type 0) (settings : List Setting) (fired : Setting) → All P settings
    → ((period : ℕ) → fired.period ≡ Some period → P (record fired { due = fired.due + period })) → (period : Option ℕ) → fired.period ≡ period
    → All P (settings ++ again fired)
all_again P settings fired all set_again None is = subst (All P) (sym (again_none fired settings is)) all
all_again P settings fired all set_again (Some period) is =
    subst (All P) (sym (again_some fired settings period is)) (All-push P settings (record fired { due = fired.due + period }) all (set_again period is))

-- what holds of all settings, and of each that is set again, holds of them after one fired
all_fired : (P : Setting → Type 0) (now : ℕ) (timers : Timers) → All P timers.settings
    → ((fired : Setting) (period : ℕ) → first_due timers.settings now ≡ Some fired → fired.period ≡ Some period → P (record fired { due = fired.due + period }))
    → (found : Option Setting) → first_due timers.settings now ≡ found → All P (after_take timers now).settings
all_fired P now timers all set_again None is = subst (λ o. All P (option_map_or (after_firing timers.settings) o timers.settings)) (sym is) all
all_fired P now timers all set_again (Some fired) is =
    subst (λ o. All P (option_map_or (after_firing timers.settings) o timers.settings)) (sym is)
    (all_again P (others timers.settings fired.timer) fired (All-filter (λ s. not (is_of fired.timer s)) P timers.settings all) (λ period p. set_again fired period is p) fired.period refl)

-- ---- tasks

-- a timer that is set again was due and has a period
duration_of : (period : Option ℕ) (p : ℕ) → IfSome period IsDuration → period ≡ Some p → 0 < p
duration_of None p duration is = absurd (cc)
duration_of (Some q) p duration is = let same : q ≡ p = some_same is in let above : 0 < q = duration.0 in omega arith

-- a fired setting is set again for later
again_later : (timers : Timers) (now : ℕ) → IsTimers timers → NoneOverdue now timers → (fired : Setting) (period : ℕ) → first_due timers.settings now ≡ Some fired
    → fired.period ≡ Some period → now < fired.due + period
again_later timers now valid on_time fired period found is =
    let due : now ≤ fired.due = found_keeps (λ s. now ≤ s.due) now timers.settings fired on_time found in
    let above : 0 < period = duration_of fired.period period (found_keeps (λ s. IfSome s.period IsDuration) now timers.settings fired valid.periods found) is in
    omega arith

-- each timer is as it was, or is due later, when a task begins
later_at_begin : (occurrence : Occurrence) (now : ℕ) (timers : Timers) → IsTimers timers → NoneOverdue now timers
    → All (λ s. Contains timers.settings s ⊎ (now < s.due)) (timers_at_begin occurrence now timers).settings
later_at_begin happens.PreStart now timers valid on_time = λ k d within. inl (All-contains_itself timers.settings k d within)
later_at_begin happens.Start now timers valid on_time = λ k d within. inl (All-contains_itself timers.settings k d within)
later_at_begin happens.Stop now timers valid on_time = λ k d within. inl (All-contains_itself timers.settings k d within)
later_at_begin (happens.Frame seen) now timers valid on_time = λ k d within. inl (All-contains_itself timers.settings k d within)
later_at_begin (happens.Key key) now timers valid on_time = λ k d within. inl (All-contains_itself timers.settings k d within)
later_at_begin (happens.Timer timer) now timers valid on_time =
    all_fired (λ s. Contains timers.settings s ⊎ (now < s.due)) now timers (λ k d within. inl (All-contains_itself timers.settings k d within))
    (λ fired period found is. inr (again_later timers now valid on_time fired period found is)) (first_due timers.settings now) refl

-- settings are those of timers when a task begins
pub valid_at_begin : (occurrence : Occurrence) (now : ℕ) (timers : Timers) → IsTimers timers → IsTimers (timers_at_begin occurrence now timers)
valid_at_begin happens.PreStart now timers valid = valid
valid_at_begin happens.Start now timers valid = valid
valid_at_begin happens.Stop now timers valid = valid
valid_at_begin (happens.Frame seen) now timers valid = valid
valid_at_begin (happens.Key key) now timers valid = valid
valid_at_begin (happens.Timer timer) now timers valid = IsTimers-after_take timers now valid

-- there are as many timers when a task begins
pub count_at_begin : (occurrence : Occurrence) (now : ℕ) (timers : Timers) → (timers_at_begin occurrence now timers).count ≡ timers.count
count_at_begin happens.PreStart now timers = refl
count_at_begin happens.Start now timers = refl
count_at_begin happens.Stop now timers = refl
count_at_begin (happens.Frame seen) now timers = refl
count_at_begin (happens.Key key) now timers = refl
count_at_begin (happens.Timer timer) now timers = refl

not_itself : (fired s : Setting) → not (is_of fired.timer s) ≡ true → s ≢ fired
not_itself fired s other same =
    elim (eqb_tells s.timer fired.timer) [
      | inl h ↦ let e : not (is_of fired.timer s) ≡ false = ap not h.0 in let g : true ≡ false = sym other ∙ e in absurd (cc)
      | inr h ↦ absurd (h.1 (ap (λ (x : Setting). x.timer) same))
    ]

-- no setting is the fired one after it fired
moved_at_begin : (now : ℕ) (timers : Timers) (fired : Setting) → IsTimers timers → first_due timers.settings now ≡ Some fired → All (λ s. s ≢ fired) (after_take timers now).settings
moved_at_begin now timers fired valid found =
    subst (λ o. All (λ s. s ≢ fired) (option_map_or (after_firing timers.settings) o timers.settings)) (sym found)
    (all_again (λ s. s ≢ fired) (others timers.settings fired.timer) fired
    (λ k d within. not_itself fired _ (filter_passes (λ s. not (is_of fired.timer s)) timers.settings k d within))
    (λ period is same.
    let above : 0 < period = duration_of fired.period period (found_keeps (λ s. IfSome s.period IsDuration) now timers.settings fired valid.periods found) is in
    let due : fired.due + period ≡ fired.due = ap (λ (s : Setting). s.due) same in
    omega arith)
    fired.period refl)

-- effects on the timers with which a task begins
effects_at_begin : (occurrence : Occurrence) (now : ℕ) (timers : Timers) (effects : List Effect) → All (IsTimerEffect timers.count) effects
    → All (IsTimerEffect (timers_at_begin occurrence now timers).count) effects
effects_at_begin occurrence now timers effects are =
    subst (λ n. All (IsTimerEffect n) effects) (sym (count_at_begin occurrence now timers)) are

-- the timers after a task, by its procedure
later_by : {M : Type 0} (runner : Runner M) (s : NodeState M) (occurrence : Occurrence) (now : ℕ) (done : Done (NodeState M)) → IsTimers s.timers → NoneOverdue now s.timers
    → (procedure : Option ℕ) → MatchOption procedure (done ≡ without_procedure s occurrence now) (λ p. DoesProcedure runner s p occurrence now done)
    → AreSetLater now s.timers done.after.timers
later_by runner s occurrence now done valid on_time None does =
    subst (λ d. AreSetLater now s.timers d.after.timers) (sym does) (later_at_begin occurrence now s.timers valid on_time)
later_by runner s occurrence now done valid on_time (Some procedure) does =
    subst (λ d. AreSetLater now s.timers d.after.timers) (sym does.is)
    (all_after (λ x. Contains s.timers.settings x ⊎ (now < x.due)) now (λ x h. inr h) does.end.effects (timers_at_begin occurrence now s.timers)
    (effects_at_begin occurrence now s.timers does.end.effects does.timers) (later_at_begin occurrence now s.timers valid on_time))

sound_by : {M : Type 0} (runner : Runner M) (s : NodeState M) (occurrence : Occurrence) (now : ℕ) (done : Done (NodeState M)) → IsTimers s.timers
    → (procedure : Option ℕ) → MatchOption procedure (done ≡ without_procedure s occurrence now) (λ p. DoesProcedure runner s p occurrence now done)
    → IsTimers done.after.timers
sound_by runner s occurrence now done valid None does = subst (λ d. IsTimers d.after.timers) (sym does) (valid_at_begin occurrence now s.timers valid)
sound_by runner s occurrence now done valid (Some procedure) does =
    subst (λ d. IsTimers d.after.timers) (sym does.is)
    (valid_after now does.end.effects (timers_at_begin occurrence now s.timers) (effects_at_begin occurrence now s.timers does.end.effects does.timers)
    (valid_at_begin occurrence now s.timers valid))

moved_by : {M : Type 0} (runner : Runner M) (s : NodeState M) (now : ℕ) (fired : Setting) (done : Done (NodeState M)) → IsTimers s.timers
    → first_due s.timers.settings now ≡ Some fired → (procedure : Option ℕ)
    → MatchOption procedure (done ≡ without_procedure s (happens.Timer fired.timer) now) (λ p. DoesProcedure runner s p (happens.Timer fired.timer) now done)
    → All (λ x. x ≢ fired) done.after.timers.settings
moved_by runner s now fired done valid found None does =
    subst (λ d. All (λ x. x ≢ fired) d.after.timers.settings) (sym does) (moved_at_begin now s.timers fired valid found)
moved_by runner s now fired done valid found (Some procedure) does =
    let due = fired_known s.timers now fired valid found in
    let not_due : fired.due ≤ now = due.due in
    subst (λ d. All (λ x. x ≢ fired) d.after.timers.settings) (sym does.is)
    (all_after (λ x. x ≢ fired) now
    (λ x later same. let e : x.due ≡ fired.due = ap (λ (y : Setting). y.due) same in omega arith)
    does.end.effects (after_take s.timers now) does.timers (moved_at_begin now s.timers fired valid found))

-- the reaction that runs of procedures make moves timers on
pub reaction_moves_timers : {M : Type 0} (runner : Runner M) → MovesTimers (reaction_of runner) (λ (s : NodeState M). IsTimers s.timers)
reaction_moves_timers {M} runner = record {
  stays_sound = λ s trigger now done valid does. sound_by runner s trigger.occurrence now done valid trigger.procedure does;
  later = λ s trigger now done valid on_time does. later_by runner s trigger.occurrence now done valid on_time trigger.procedure does;
  moves = λ s trigger now fired done valid is found does.
      moved_by runner s now fired done valid found trigger.procedure
      (subst (λ o. MatchOption trigger.procedure (done ≡ without_procedure s o now) (λ p. DoesProcedure runner s p o now done)) is does);
}
