-- What a node has left to do in a round: triggers that can be done.
use Rattle.std.specs.Prelude.{◌≡◌, ℕ, ◌<◌, List, Option, Some, None, All, IfSome, MatchOption, map, ⊤}
use Rattle.std.specs.Option.{option_map}
use Rattle.timer_queue.specs.Timers.{Timers}
use Rattle.bytecode.specs.declared.code.Handler.{Handler}
use Rattle.node_rounds.specs.declared.occurrence.Occurrence.{Occurrence}
use Rattle.node_rounds.specs.declared.occurrence.Occurrence.TheVariants.{Timer}
use Rattle.node_rounds.specs.declared.occurrence.Trigger.{Trigger}
use Rattle.node_rounds.specs.Procedures.{procedures_for}
use Rattle.node_rounds.specs.Reaction.{due_timer, timers_at_begin}
use Rattle.node_rounds.specs.Round.{Rest, next_first, timer_trigger}
use Rattle.node_run.specs.Code.{events_of}

-- an occurrence with each of some procedures, in order
abbrev pub triggers_of : Occurrence → List ℕ → List Trigger
triggers_of occurrence numbers =
    map (λ procedure. record { occurrence = occurrence; procedure = Some procedure }) numbers

-- an occurrence that is no due timer
abbrev pub IsNoTimer : Occurrence → Type 0
IsNoTimer (Timer timer) = ⊥
IsNoTimer occurrence = ⊤

-- a trigger of one of so many procedures that is no due timer
pub record IsPlanned (count : ℕ) (trigger : Trigger) : Type 0 where
  pub no_timer : IsNoTimer trigger.occurrence
  pub exists : IfSome trigger.procedure (λ procedure. procedure < count)

-- triggers of procedures among so many
pub record IsPlan (count : ℕ) (rest : Rest) : Type 0 where
  pub first : All (IsPlanned count) rest.first
  pub last : All (IsPlanned count) rest.last

-- the next of what is left at a moment, for a node that is not halted
abbrev pub next_in : List Handler → Rest → Timers → ℕ → Option (Trigger × Rest)
next_in handlers rest timers now =
    next_first rest
    (option_map (timer_trigger (procedures_for (events_of handlers))) (due_timer timers now)) rest.first

-- the next trigger was taken, and its timer fired; where there is none nothing changed
abbrev pub IsNextTaken : List Handler → Rest → Timers → ℕ → Option Trigger → Rest → Timers → Type 0
IsNextTaken handlers rest timers now taken rest_after timers_after =
    MatchOption (next_in handlers rest timers now) (taken ≡ None)
    (λ next. (taken ≡ Some next.0) × (rest_after ≡ next.1)
    × (timers_after ≡ timers_at_begin next.0.occurrence now timers))
