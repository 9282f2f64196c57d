-- The tasks of one node in a round, in order. The order of the tasks of a moment is this project's own: the
-- frame that was seen, the due timers in the order of their settings, the keys.
use Rattle.std.specs.Prelude.{◌≡◌, ℕ, Bool, true, false, if◌then◌else◌, List, [], ◌∷◌, Option, None, Some, map, slice_get}
use Rattle.std.specs.List.{flat_map}
use Rattle.std.specs.Option.{option_map, option_map_or}
use Rattle.can_frame.specs.Frame.{FrameFields}
use Rattle.node_rounds.specs.declared.occurrence.Occurrence.{Occurrence}
use Rattle.node_rounds.specs.declared.occurrence.Occurrence.TheVariants as happens
use Rattle.node_rounds.specs.declared.occurrence.Trigger.{Trigger}
use Rattle.node_rounds.specs.declared.round.Round.{Round}
use Rattle.node_rounds.specs.declared.round.Round.TheVariants.{PreStart, Start, Moment, Stop}
use Rattle.node_rounds.specs.declared.round.Seen.{Seen}
use Rattle.node_rounds.specs.Reaction.{Done, Reacts, due_timer}

-- what a node has left to do in a round: triggers, then due timers where the round asks for them, then
-- triggers
pub record Rest : Type 0 where
  pub first : List Trigger
  pub asks_timers : Bool
  pub last : List Trigger

-- nothing is left to do
abbrev pub nothing_left : Rest
nothing_left = record { first = []; asks_timers = false; last = [] }

-- an occurrence with each of its procedures, in order
abbrev pub triggers : (Occurrence → List ℕ) → Occurrence → List Trigger
triggers procedures occurrence =
    map (λ procedure. record { occurrence = occurrence; procedure = Some procedure }) (procedures occurrence)

-- the keys that have a procedure, in order
abbrev pub key_triggers : (Occurrence → List ℕ) → List ℕ → List Trigger
key_triggers procedures keys = flat_map (λ key. triggers procedures (happens.Key key)) keys

-- the frame that was seen, where there is one that has a procedure
abbrev pub frame_triggers : (Occurrence → List ℕ) → Option Seen → List Trigger
frame_triggers procedures seen = option_map_or (λ frame. triggers procedures (happens.Frame frame)) seen []

-- what a node has to do in a round with a frame that it sees and keys that are pressed
abbrev pub rest_of : (Occurrence → List ℕ) → Round → Option Seen → List ℕ → Rest
rest_of procedures PreStart seen keys =
    record { first = triggers procedures happens.PreStart; asks_timers = false; last = [] }
rest_of procedures Start seen keys =
    record {
      first = triggers procedures happens.Start;
      asks_timers = false;
      last = key_triggers procedures keys;
    }
rest_of procedures Moment seen keys =
    record {
      first = frame_triggers procedures seen;
      asks_timers = true;
      last = key_triggers procedures keys;
    }
rest_of procedures Stop seen keys =
    record { first = triggers procedures happens.Stop; asks_timers = false; last = [] }

-- the trigger of a due timer, with its procedure if it has one
abbrev pub timer_trigger : (Occurrence → List ℕ) → ℕ → Trigger
timer_trigger procedures timer =
    record { occurrence = happens.Timer timer; procedure = slice_get (procedures (happens.Timer timer)) 0 }

-- ---- the next of what is left

-- the next of the last triggers, and what is left behind it
abbrev pub next_last : Rest → List Trigger → Option (Trigger × Rest)
next_last rest [] = None
next_last rest (trigger ∷ triggers) = Some (trigger, record rest { last = triggers })

-- the due timer, else the next of the last triggers
abbrev pub timer_or_last : Rest → Option Trigger → Option (Trigger × Rest)
timer_or_last rest None = next_last rest rest.last
timer_or_last rest (Some trigger) = Some (trigger, rest)

-- the next of the first triggers, else the due timer where the round asks for it, else the next of the last
abbrev pub next_first : Rest → Option Trigger → List Trigger → Option (Trigger × Rest)
next_first rest due [] = if rest.asks_timers then timer_or_last rest due else next_last rest rest.last
next_first rest due (trigger ∷ triggers) = Some (trigger, record rest { first = triggers })

-- the next trigger, and what is left behind it; a halted node has none
abbrev pub next_trigger : Bool → Option Trigger → Rest → Option (Trigger × Rest)
next_trigger is_halted due rest = if is_halted then None else next_first rest due rest.first

-- ---- tasks

-- a node in a round, and what it has left to do
pub record Doing (S : Type 0) : Type 0 where
  pub node : S
  pub rest : Rest

-- One task: what it was begun by, its lines and its requests in order, whether it asked to stop, and the
-- turns that it took.
pub record Task : Type 0 where
  pub trigger : Trigger
  pub lines : List (List ℕ)
  pub requests : List FrameFields
  pub stops : Bool
  pub turns : ℕ

-- the task in which a node has done this
abbrev pub task_of : {S : Type 0} → Trigger → Done S → Task
task_of {S} trigger done = record {
  trigger = trigger;
  lines = done.lines;
  requests = done.requests;
  stops = done.stops;
  turns = done.turns;
}

-- the trigger of the timer of a node that is due at a moment, if one is
abbrev pub due_trigger : {S : Type 0} → Reacts S → S → ℕ → Option Trigger
due_trigger {S} r s now = option_map (timer_trigger (r.procedures s)) (due_timer (r.timers s) now)

-- what a node does next at a moment: the trigger, and what is left behind it
abbrev pub next_of : {S : Type 0} → Reacts S → ℕ → Doing S → Option (Trigger × Rest)
next_of {S} r now d = next_trigger (r.is_halted d.node) (due_trigger r d.node now) d.rest

-- this is the next task of a node, and how it stands after it
pub record DoesNext {S : Type 0} (r : Reacts S) (now : ℕ) (d : Doing S) (task : Task) (after : Doing S) :
    Type 0 where
  pub trigger : Trigger
  pub done : Done S
  pub is_next : next_of r now d ≡ Some (trigger, after.rest)
  pub does : r.does d.node trigger now done
  pub is_task : task ≡ task_of trigger done
  pub stands : after.node ≡ done.after

-- a node has no further task in the round
abbrev pub IsDone : {S : Type 0} → Reacts S → ℕ → Doing S → Type 0
IsDone {S} r now d = next_of r now d ≡ None

-- these are all tasks that are left, in order, and this is where they lead, by single tasks and by when
-- there is no further one
abbrev pub PartOf : {X : Type 0} → (X → Task → X → Type 0) → (X → Type 0) → X → List Task → X → Type 0
PartOf {X} does is_done d [] after = is_done d × (after ≡ d)
PartOf {X} does is_done d (task ∷ tasks) after =
    (between : X) × does d task between × PartOf does is_done between tasks after

-- a node at the beginning of a round
abbrev pub at_begin : {S : Type 0} → Reacts S → Round → Option Seen → List ℕ → S → Doing S
at_begin {S} r round seen keys s = record { node = s; rest = rest_of (r.procedures s) round seen keys }

-- The part of a node in a round at a moment, with the frame that it sees and the keys that are pressed: these
-- are its tasks, and so it stands afterwards.
pub record IsPart {S : Type 0} (r : Reacts S) (round : Round) (now : ℕ) (seen : Option Seen) (keys : List ℕ)
    (s : S) (tasks : List Task) (after : S) : Type 0 where
  pub end : Doing S
  pub part : PartOf (DoesNext r now) (IsDone r now) (at_begin r round seen keys s) tasks end
  pub stands : after ≡ end.node
