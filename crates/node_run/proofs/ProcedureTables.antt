-- What is entered in tables of procedures.
use Rattle.std.proofs.Common.{◌≡◌, ◌≢◌, inl, inr, ℕ, ◌+◌, ◌<◌, ◌≤◌, false, cond, eqb, List, [], ◌∷◌, length, get_or, drop, Option, None, Some, arith, refl, ap, sym, ◌∙◌}
use Rattle.std.specs.List.{All, cons_option, position_from}
use Rattle.std.specs.Option.{option_map_or, option_or}
use Rattle.std.proofs.lemmas.Bool.{eq-eqb, cases_eq}
use Rattle.std.proofs.lemmas.Bool.Decides.{eqb_tells}
use Rattle.std.proofs.lemmas.List.{drop_more}
use Rattle.std.proofs.lemmas.List.Elements.{All-head, All-tail}
use Rattle.run_effects.specs.declared.event.Event.{Event}
use Rattle.run_effects.specs.declared.event.Event.TheVariants as event
use Rattle.run_effects.specs.Effect.{timer_of}
use Rattle.bytecode.specs.declared.code.Handler.{Handler}
use Rattle.bytecode.specs.Tables.{all_timers}
use Rattle.node_rounds.specs.declared.occurrence.Occurrence.TheVariants as happens
use Rattle.node_rounds.specs.Procedures.{first_where, reacts_to}
use Rattle.node_run.specs.declared.tables.Subject.{Subject}
use Rattle.node_run.specs.declared.tables.Subject.TheVariants.{Timers, Keys}
use Rattle.node_run.specs.Code.{events_of}
use Rattle.node_run.specs.Inside.Tables.{is_for, place_of}

-- a procedure is for the number at its place
is_for_place : (subject : Subject) (seen : Event) (number : ℕ) → is_for subject number seen ≡ option_map_or (λ place. eqb place number) (place_of subject seen) false
is_for_place Timers event.PreStart number = refl
is_for_place Timers event.Start number = refl
is_for_place Timers event.Stop number = refl
is_for_place Timers (event.Message selectors) number = refl
is_for_place Timers (event.Timer timer) number = refl
is_for_place Timers (event.Key None) number = refl
is_for_place Timers (event.Key (Some key)) number = refl
is_for_place Keys event.PreStart number = refl
is_for_place Keys event.Start number = refl
is_for_place Keys event.Stop number = refl
is_for_place Keys (event.Message selectors) number = refl
is_for_place Keys (event.Timer timer) number = refl
is_for_place Keys (event.Key None) number = refl
is_for_place Keys (event.Key (Some key)) number = refl

eqb_other : (a b : ℕ) → b ≢ a → eqb a b ≡ false
eqb_other a b other = elim (eqb_tells a b) [ inl same ↦ absurd (other (sym same.1)) | inr differs ↦ differs.0 ]

-- the first procedure for a number, where one is entered already
abbrev pub first_of : Subject → ℕ → ℕ → List Handler → Option ℕ → Option ℕ
first_of subject number at handlers own = option_or own (position_from (is_for subject number) at (events_of handlers))

else_none : (own : Option ℕ) → option_or own None ≡ own
else_none None = refl
else_none (Some k) = refl

else_some : (own : Option ℕ) (k : ℕ) (more : Option ℕ) → option_or (option_or own (Some k)) more ≡ option_or own (Some k)
else_some None k more = refl
else_some (Some n) k more = refl

-- a handler without a place changes no entry
pub next_without_place : (subject : Subject) (handlers : List Handler) (i number : ℕ) (d : Handler) (own : Option ℕ) → i < length handlers → place_of subject (get_or handlers i d).event ≡ None
    → first_of subject number i (drop i handlers) own ≡ first_of subject number (i + 1) (drop (i + 1) handlers) own
next_without_place subject handlers i number d own within none =
    let not_for : is_for subject number (get_or handlers i d).event ≡ false = is_for_place subject (get_or handlers i d).event number ∙ ap (λ p. option_map_or (λ place. eqb place number) p false) none in
    ap (λ hs. first_of subject number i hs own) (drop_more handlers i d within)
    ∙ ap (λ b. option_or own (cond b (Some i) (position_from (is_for subject number) (i + 1) (events_of (drop (i + 1) handlers))))) not_for

-- a handler with a place is entered there
pub next_with_place : (subject : Subject) (handlers : List Handler) (i number place : ℕ) (d : Handler) (own after : Option ℕ) → i < length handlers → place_of subject (get_or handlers i d).event ≡ Some place
    → (number ≡ place → after ≡ option_or own (Some i)) → (number ≢ place → after ≡ own)
    → first_of subject number i (drop i handlers) own ≡ first_of subject number (i + 1) (drop (i + 1) handlers) after
next_with_place subject handlers i number place d own after within is entered stays =
    let tested : is_for subject number (get_or handlers i d).event ≡ eqb place number = is_for_place subject (get_or handlers i d).event number ∙ ap (λ p. option_map_or (λ place. eqb place number) p false) is in
    let more : Option ℕ = position_from (is_for subject number) (i + 1) (events_of (drop (i + 1) handlers)) in
    let begin : first_of subject number i (drop i handlers) own ≡ option_or own (cond (eqb place number) (Some i) more) =
    ap (λ hs. first_of subject number i hs own) (drop_more handlers i d within) ∙ ap (λ b. option_or own (cond b (Some i) more)) tested in
    elim (cases_eq number place) [
      | inl same ↦
          begin ∙ ap (λ b. option_or own (cond b (Some i) more)) (eq-eqb place number (sym same))
          ∙ sym (else_some own i more) ∙ sym (ap (λ o. option_or o more) (entered same))
      | inr other ↦
          begin ∙ ap (λ b. option_or own (cond b (Some i) more)) (eqb_other place number other)
          ∙ sym (ap (λ o. option_or o more) (stays other))
    ]

is_timer_of : (seen : Event) (timer : ℕ) → reacts_to (happens.Timer timer) seen ≡ option_map_or (λ own. eqb own timer) (timer_of seen) false
is_timer_of event.PreStart timer = refl
is_timer_of event.Start timer = refl
is_timer_of event.Stop timer = refl
is_timer_of (event.Message selectors) timer = refl
is_timer_of (event.Timer own) timer = refl
is_timer_of (event.Key None) timer = refl
is_timer_of (event.Key (Some key)) timer = refl

none_from : (handlers : List Handler) (count timer number : ℕ) → All (λ t. t < count) (all_timers handlers) → count ≤ timer → position_from (reacts_to (happens.Timer timer)) number (events_of handlers) ≡ None
none_from [] count timer number exist behind = refl
none_from (handler ∷ handlers) count timer number exist behind =
    let here = other_timer (timer_of handler.event) (all_timers handlers) exist in
    ap (λ b. cond b (Some number) (position_from (reacts_to (happens.Timer timer)) (number + 1) (events_of handlers))) (is_timer_of handler.event timer ∙ here.0)
    ∙ none_from handlers count timer (number + 1) here.1 behind
  where
    other_timer : (own : Option ℕ) (timers : List ℕ) → All (λ t. t < count) (cons_option own timers)
        → (option_map_or (λ t. eqb t timer) own false ≡ false) × All (λ t. t < count) timers
    other_timer None timers all = (refl, all)
    other_timer (Some t) timers all =
        let below = All-head (λ t. t < count) t timers all in
        (eqb_other t timer (λ same. omega (arith, same, below, behind)), All-tail (λ t. t < count) t timers all)

-- no timer procedure is for a timer behind all of them
pub none_behind : (handlers : List Handler) (count timer : ℕ) → All (λ t. t < count) (all_timers handlers) → count ≤ timer → first_where (reacts_to (happens.Timer timer)) (events_of handlers) ≡ None
none_behind handlers count timer exist behind = none_from handlers count timer 0 exist behind
