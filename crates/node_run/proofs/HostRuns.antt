-- A run on a host is a run for the parts that the host stands for.
use Rattle.std.proofs.Common.{◌≡◌, ℕ, Bool, List, [], ◌∷◌, inl, inr, ◌⊎◌, ap, sym, subst, ◌∙◌}
use Rattle.std.specs.Prelude.{Result, Ok, Err, OnErr}
use Rattle.can_frame.specs.Frame.{FrameFields}
use Rattle.run_effects.specs.Effect.{Effect, Line, Send, Stop, Set, Cancel}
use Rattle.vm_host.specs.Host.{HostMeaning}
use Rattle.run_records.specs.Record.{RecordMeaning}
use Rattle.run_effects.specs.declared.outcome.Outcome.{Outcome}
use Rattle.timer_queue.specs.Timers.{IsTimers, Timers, active_timers}
use Rattle.bytecode.specs.declared.code.Code.{Code}
use Rattle.bytecode.specs.Machine.{Machine}
use Rattle.bytecode.specs.Runs.{EndsIn}
use Rattle.stack_vm.specs.declared.meter.MeterRow.{MeterRow}
use Rattle.stack_vm.specs.Memory.{MemoryState}
use Rattle.stack_vm.specs.Runs.{BeginsIn, IsRunRefused, Runs, TakesAll}
use Rattle.node_rounds.proofs.MovingTimers.{valid_after}
use Rattle.node_run.specs.Inside.Handler.{BeginsHere, RefusesHandler, RunsHandler}
use Rattle.node_run.specs.Inside.Host.{Parts, PartsRefuse, PartsTake, parts}
use Rattle.node_run.proofs.TaskEffects.{PartsTakeAll, come_to}

-- an error is one of which something holds
pub on_err : {T E P : Type 0} (result : Result T E) → P → OnErr result P
on_err (Ok x) p = tt
on_err (Err e) p = p

-- what each taken effect keeps, all keep
kept_by_all : {S A : Type 0} (f : S → A) (host : HostMeaning S)
    (each : (before : S) (effect : Effect) (after : S) → host.takes before effect after → f after ≡ f before)
    (before : S) (effects : List Effect) (after : S) → TakesAll host before effects after → f after ≡ f before
kept_by_all f host each before [] after same = ap f same
kept_by_all f host each before (effect ∷ effects) after taken =
    kept_by_all f host each taken.0 effects after taken.2 ∙ each before effect taken.0 taken.1

-- what each taken effect keeps, a run keeps
pub kept_by_run : {S A : Type 0} (f : S → A) {host : HostMeaning S}
    (each : (before : S) (effect : Effect) (after : S) → host.takes before effect after → f after ≡ f before)
    {code : Code} {handler turns row : ℕ} {memory : MemoryState} {before : S} {meter : List MeterRow}
    {outcome : Outcome} {memory_after : MemoryState} {after : S} {meter_after : List MeterRow}
    → Runs host code handler turns row memory before meter outcome memory_after after meter_after → f after ≡ f before
kept_by_run f {host} each {before} {after} r = kept_by_all f host each before r.end.effects after r.taken

-- and so does a run that was refused, where a refusal keeps it too
pub kept_by_refused_run : {S A : Type 0} (f : S → A) {host : HostMeaning S}
    (each : (before : S) (effect : Effect) (after : S) → host.takes before effect after → f after ≡ f before)
    (refused : (before : S) (effect : Effect) (after : S) → host.refuses before effect after → f after ≡ f before)
    {code : Code} {handler turns : ℕ} {memory : MemoryState} {before after : S}
    → IsRunRefused host code handler turns memory before after → f after ≡ f before
kept_by_refused_run f {host} each refused {before} {after} r =
    let k = kept_by_all f host each before r.at.effects r.between r.taken in
    elim r.refusal as (λ _. f after ≡ f before) [ inl same ↦ ap f same ∙ k | inr gone ↦ refused r.between r.effect after gone ∙ k ]

-- effects on a host are effects on its parts
taken_along : {S B R : Type 0} (f : S → Parts B R) (host : HostMeaning S) (after_request : B → ℕ → FrameFields → B) (meaning : RecordMeaning R)
    (each : (before : S) (effect : Effect) (after : S) → host.takes before effect after → PartsTake after_request meaning (f before) effect (f after))
    (before : S) (effects : List Effect) (after : S) → TakesAll host before effects after → PartsTakeAll after_request meaning (f before) effects (f after)
taken_along f host after_request meaning each before [] after same = ap f same
taken_along f host after_request meaning each before (effect ∷ effects) after taken =
    (f taken.0, each before effect taken.0 taken.1, taken_along f host after_request meaning each taken.0 effects after taken.2)

-- a handler that begins on a host begins for its parts
begins_along : {S B R : Type 0} (f : S → Parts B R) (host : HostMeaning S) (active : (s : S) → host.active_timers s ≡ active_timers (f s).timers)
    {code : Code} {handler turns : ℕ} {memory : MemoryState} {before : S} {start : Machine}
    → BeginsIn host code handler turns memory before start → BeginsHere code handler turns memory (f before) start
begins_along f host active {before} b =
    record { is_start = b.is_start; cells = b.cells; active = b.timers ∙ active before; turns_given = b.turns_given; no_effects = b.no_effects }

-- a run on a host is one for its parts
pub runs_along : {S B R : Type 0} (f : S → Parts B R) {host : HostMeaning S} (after_request : B → ℕ → FrameFields → B) (meaning : RecordMeaning R)
    (active : (s : S) → host.active_timers s ≡ active_timers (f s).timers) (moment : (s : S) → host.moment s ≡ (f s).moment)
    (each : (before : S) (effect : Effect) (after : S) → host.takes before effect after → PartsTake after_request meaning (f before) effect (f after))
    {code : Code} {handler turns row : ℕ} {memory : MemoryState} {before : S} {meter : List MeterRow}
    {outcome : Outcome} {memory_after : MemoryState} {after : S} {meter_after : List MeterRow}
    → Runs host code handler turns row memory before meter outcome memory_after after meter_after
    → RunsHandler after_request meaning code (host.is_closed before) handler turns row memory (f before) meter outcome memory_after (f after) meter_after
runs_along f {host} after_request meaning active moment each {code} {before} {outcome} {after} r = record {
  start = r.start;
  last = r.end;
  begins = begins_along f host active r.begins;
  ends = subst (λ m. EndsIn code (host.is_closed before) m r.start outcome r.end) (moment before) r.ends;
  cells = r.cells;
  come_to = come_to after_request meaning (f before) r.end.effects (f after) (taken_along f host after_request meaning each before r.end.effects after r.taken);
  metered = r.metered;
}

-- a refusal keeps the timers
refusal_keeps : {B R : Type 0} (meaning : RecordMeaning R) (before : Parts B R) (effect : Effect) (after : Parts B R) → PartsRefuse meaning before effect after → after.timers ≡ before.timers
refusal_keeps meaning before (Line text) after refused = refused.1
refusal_keeps meaning before (Send frame) after refused = refused.1
refusal_keeps meaning before Stop after none = absurd none
refusal_keeps meaning before (Set timer micros cyclic) after none = absurd none
refusal_keeps meaning before (Cancel timer) after none = absurd none

-- a refused run on a host is one for its parts
pub refused_along : {S B R : Type 0} (f : S → Parts B R) {host : HostMeaning S} (after_request : B → ℕ → FrameFields → B) (meaning : RecordMeaning R)
    (active : (s : S) → host.active_timers s ≡ active_timers (f s).timers) (moment : (s : S) → host.moment s ≡ (f s).moment)
    (each : (before : S) (effect : Effect) (after : S) → host.takes before effect after → PartsTake after_request meaning (f before) effect (f after))
    (refused : (before : S) (effect : Effect) (after : S) → host.refuses before effect after → PartsRefuse meaning (f before) effect (f after))
    {code : Code} {handler turns : ℕ} {memory : MemoryState} {before after : S}
    → IsRunRefused host code handler turns memory before after
    → RefusesHandler after_request meaning code (host.is_closed before) handler turns memory (f before) (f after)
refused_along f {host} after_request meaning active moment each refused {code} {before} {after} r = record {
  start = r.start;
  at = r.at;
  between = f r.between;
  effect = r.effect;
  begins = begins_along f host active r.begins;
  come_to = come_to after_request meaning (f before) r.at.effects (f r.between) (taken_along f host after_request meaning each before r.at.effects r.between r.taken);
  next_effect = λ outcome last ends.
      r.next_effect outcome last (subst (λ m. EndsIn code (host.is_closed before) m r.start outcome last) (sym (moment before)) ends);
  refusal = elim r.refusal as (λ _. ((f after).into ≡ (f r.between).into) ⊎ PartsRefuse meaning (f r.between) r.effect (f after))
      [ inl same ↦ inl (ap (λ s. (f s).into) same) | inr gone ↦ inr (refused r.between r.effect after gone) ];
  same_timers = elim r.refusal as (λ _. (f after).timers ≡ (f r.between).timers)
      [ inl same ↦ ap (λ s. (f s).timers) same | inr gone ↦ refusal_keeps meaning (f r.between) r.effect (f after) (refused r.between r.effect after gone) ];
}

-- a run leaves timers settings that timers have
pub valid_run : {B R : Type 0} {after_request : B → ℕ → FrameFields → B} {meaning : RecordMeaning R} {code : Code} {closed : Bool} {handler turns row : ℕ} {memory : MemoryState}
    {before : Parts B R} {meter : List MeterRow} {outcome : Outcome} {memory_after : MemoryState} {after : Parts B R} {meter_after : List MeterRow}
    → RunsHandler after_request meaning code closed handler turns row memory before meter outcome memory_after after meter_after → IsTimers before.timers → IsTimers after.timers
valid_run {before} r valid = subst IsTimers (sym r.come_to.timers) (valid_after before.moment r.last.effects before.timers r.come_to.of_timers valid)

-- and so does one that was refused
pub valid_refused : {B R : Type 0} {after_request : B → ℕ → FrameFields → B} {meaning : RecordMeaning R} {code : Code} {closed : Bool} {handler turns : ℕ} {memory : MemoryState}
    {before after : Parts B R} → RefusesHandler after_request meaning code closed handler turns memory before after → IsTimers before.timers → IsTimers after.timers
valid_refused {before} r valid =
    subst IsTimers (sym (r.same_timers ∙ r.come_to.timers)) (valid_after before.moment r.at.effects before.timers r.come_to.of_timers valid)

-- parts with the same values
pub same_parts : {B R : Type 0} {n n' m m' : ℕ} {s s' : Bool} {b b' : B} {r r' : R} {t t' : Timers}
    → n ≡ n' → m ≡ m' → s ≡ s' → b ≡ b' → r ≡ r' → t ≡ t' → parts n m s b r t ≡ parts n' m' s' b' r' t'
same_parts e₁ e₂ e₃ e₄ e₅ e₆ = cc
