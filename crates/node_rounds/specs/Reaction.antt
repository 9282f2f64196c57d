-- How a node reacts: what a reaction is, and the reaction that runs of procedures make.
use Rattle.std.specs.Prelude.{◌≡◌, ◌≢◌, ◌⊎◌, ℕ, ◌<◌, ◌≤◌, Bool, true, false, if◌then◌else◌, List, [], ◌++◌, Option, None, Some, All, Contains, MatchOption}
use Rattle.std.specs.Option.{option_map}
use Rattle.can_frame.specs.Frame.{FrameFields}
use Rattle.run_effects.specs.Effect.{Effect}
use Rattle.run_effects.specs.declared.event.Event.{Event}
use Rattle.run_effects.specs.declared.outcome.Outcome.{Outcome}
use Rattle.timer_queue.specs.declared.setting.Setting.{Setting}
use Rattle.timer_queue.specs.Timers.{Timers, active_timers, after_take, first_due, least_due}
use Rattle.node_rounds.specs.declared.occurrence.Occurrence.{Occurrence}
use Rattle.node_rounds.specs.declared.occurrence.Occurrence.TheVariants.{Stop, Timer}
use Rattle.node_rounds.specs.declared.occurrence.Trigger.{Trigger}
use Rattle.node_rounds.specs.Effects.{IsTimerEffect, halt_lines, halts, written_lines, requested_frames, stops_of, timers_after}
use Rattle.node_rounds.specs.Procedures.{procedures_for}

-- what a node has done in a task: its lines and its requests in order, whether it asked to stop, the turns
-- that it took, and how it stands then
pub record Done (S : Type 0) : Type 0 where
  pub lines : List (List ℕ)
  pub requests : List FrameFields
  pub stops : Bool
  pub turns : ℕ
  pub after : S

-- How nodes of a type react: whether a node is halted, the procedures that it has for an occurrence in
-- order, its timers, and what it may do by a trigger at a moment in microseconds.
pub record Reacts (S : Type 0) : Type 1 where
  pub is_halted : S → Bool
  pub procedures : S → Occurrence → List ℕ
  pub timers : S → Timers
  pub does : S → Trigger → ℕ → Done S → Type 0

-- the timer whose setting is the oldest of those that are due at a moment
abbrev pub due_timer : Timers → ℕ → Option ℕ
due_timer timers now = option_map (λ setting. setting.timer) (first_due timers.settings now)

-- the next moment at which a timer of a node is due, if it is not halted and one is active
abbrev pub next_due : {S : Type 0} → Reacts S → S → Option ℕ
next_due {S} r s = if r.is_halted s then None else least_due (r.timers s).settings

-- ---- what a reaction keeps

-- no timer was due before a moment
abbrev pub NoneOverdue : ℕ → Timers → Type 0
NoneOverdue now timers = All (λ setting. now ≤ setting.due) timers.settings

-- each active timer is as it was, or is due later than a moment
abbrev pub AreSetLater : ℕ → Timers → Timers → Type 0
AreSetLater now before after =
    All (λ setting. Contains before.settings setting ⊎ (now < setting.due)) after.settings

-- What a reaction keeps, on nodes of which something holds that its tasks keep: after a task at a moment,
-- before which no timer was due, each active timer is as it was before or is due later than this moment; and
-- a task of a due timer does not leave this timer as it was.
pub record MovesTimers {S : Type 0} (r : Reacts S) (sound : S → Type 0) : Type 0 where
  pub stays_sound : (s : S) (trigger : Trigger) (now : ℕ) (done : Done S) →
      sound s → r.does s trigger now done → sound done.after
  pub later : (s : S) (trigger : Trigger) (now : ℕ) (done : Done S) →
      sound s → NoneOverdue now (r.timers s) → r.does s trigger now done →
      AreSetLater now (r.timers s) (r.timers done.after)
  pub moves : (s : S) (trigger : Trigger) (now : ℕ) (fired : Setting) (done : Done S) →
      sound s → trigger.occurrence ≡ Timer fired.timer → first_due (r.timers s).settings now ≡ Some fired →
      r.does s trigger now done → All (λ setting. setting ≢ fired) (r.timers done.after).settings

-- ---- the reaction that runs of procedures make

-- how the run of a procedure ended: the memory, the effects in order, the turns that it took, and the outcome
pub record RunEnd (M : Type 0) : Type 0 where
  pub memory : M
  pub effects : List Effect
  pub turns : ℕ
  pub outcome : Outcome

-- How procedures run in memories of a type: what the procedures of a memory's program react to, in program
-- order, and how the run of the procedure of a number may end, with `this` of an occurrence, at a moment,
-- with these timers active. In a measurement that has ended only lines are effects.
pub record Runner (M : Type 0) : Type 1 where
  pub events : M → List Event
  pub ends : M → ℕ → Occurrence → ℕ → List Bool → RunEnd M → Type 0

-- a node: its memory, its timers, and whether it is halted
pub record NodeState (M : Type 0) : Type 0 where
  pub memory : M
  pub timers : Timers
  pub is_halted : Bool

-- whether the measurement has ended, so that nothing goes to the bus or to timers
abbrev pub is_closed : Occurrence → Bool
is_closed Stop = true
is_closed occurrence = false

-- the timers when a task begins: a due timer fires
abbrev pub timers_at_begin : Occurrence → ℕ → Timers → Timers
timers_at_begin (Timer timer) now timers = after_take timers now
timers_at_begin occurrence now timers = timers

-- the task of a due timer that has no procedure: it only takes the timer
abbrev pub without_procedure : {M : Type 0} → NodeState M → Occurrence → ℕ → Done (NodeState M)
without_procedure {M} s occurrence now = record {
  lines = [];
  requests = [];
  stops = false;
  turns = 0;
  after = record s { timers = timers_at_begin occurrence now s.timers };
}

-- The task of a procedure whose run ended so. A trap or a cut adds the line that tells it behind the lines of
-- the run, and halts the node; all that the run did before stays.
abbrev pub with_procedure : {M : Type 0} → NodeState M → Occurrence → ℕ → RunEnd M → Done (NodeState M)
with_procedure {M} s occurrence now end = record {
  lines = written_lines end.effects ++ halt_lines end.outcome;
  requests = requested_frames end.effects;
  stops = stops_of end.effects;
  turns = end.turns;
  after = record {
    memory = end.memory;
    timers = timers_after now (timers_at_begin occurrence now s.timers) end.effects;
    is_halted = halts end.outcome;
  };
}

-- a procedure is run, and its run ends
pub record DoesProcedure {M : Type 0} (runner : Runner M) (s : NodeState M) (procedure : ℕ)
    (occurrence : Occurrence) (now : ℕ) (done : Done (NodeState M)) : Type 0 where
  pub end : RunEnd M
  pub ends : runner.ends s.memory procedure occurrence now
      (active_timers (timers_at_begin occurrence now s.timers)) end
  pub timers : All (IsTimerEffect s.timers.count) end.effects
  pub is : done ≡ with_procedure s occurrence now end

-- what a node does by a trigger: it runs the procedure, if there is one
abbrev pub DoesTrigger : {M : Type 0} → Runner M → NodeState M → Trigger → ℕ → Done (NodeState M) → Type 0
DoesTrigger {M} runner s trigger now done = MatchOption trigger.procedure
    (done ≡ without_procedure s trigger.occurrence now)
    (λ procedure. DoesProcedure runner s procedure trigger.occurrence now done)

-- the reaction of nodes whose procedures run so
abbrev pub reaction_of : {M : Type 0} → Runner M → Reacts (NodeState M)
reaction_of {M} runner = record {
  is_halted = λ s. s.is_halted;
  procedures = λ s occurrence. procedures_for (runner.events s.memory) occurrence;
  timers = λ s. s.timers;
  does = λ s trigger now done. DoesTrigger runner s trigger now done;
}
