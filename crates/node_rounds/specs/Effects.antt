-- What the effects of a run come to (CAPL manual: write, output, stop, setTimer, setTimerCyclic,
-- cancelTimer). What a trap and the limit of turns do is this project's own.
use Rattle.std.specs.Prelude.{ℕ, ◌<◌, Bool, true, false, List, [], ◌∷◌, fold, codes, ⊤, ◌≡◌, map}
use Rattle.can_frame.specs.Frame.{FrameFields}
use Rattle.run_effects.specs.Effect.{Effect, Line, Send, Stop, Set, Cancel}
use Rattle.run_effects.specs.declared.outcome.Outcome.{Outcome}
use Rattle.run_effects.specs.declared.outcome.Outcome.TheVariants.{Done, Trapped, Cut}
use Rattle.run_effects.specs.declared.outcome.TrapKind.TheVariants.{ZeroDivisor, Index}
use Rattle.timer_queue.specs.Timers.{Timers, IsDuration, after_cancel, after_set}
use Rattle.run_records.specs.declared.record.Noted.{Noted}
use Rattle.run_records.specs.Record.{RecordMeaning, TakesEntry}
use Rattle.run_records.specs.declared.record.Noted.TheVariants as entry

-- ---- What effects come to.

-- the texts of the lines, in order
abbrev pub written_lines : List Effect → List (List ℕ)
written_lines [] = []
written_lines (Line text ∷ effects) = text ∷ written_lines effects
written_lines (effect ∷ effects) = written_lines effects

-- the frames that are requested, in order
abbrev pub requested_frames : List Effect → List FrameFields
requested_frames [] = []
requested_frames (Send frame ∷ effects) = frame ∷ requested_frames effects
requested_frames (effect ∷ effects) = requested_frames effects

-- whether the run asked to stop the measurement
abbrev pub stops_of : List Effect → Bool
stops_of [] = false
stops_of (Stop ∷ effects) = true
stops_of (effect ∷ effects) = stops_of effects

-- the timers after one effect at a moment
abbrev pub timers_after_one : ℕ → Timers → Effect → Timers
timers_after_one now timers (Set timer micros cyclic) = after_set timers timer now micros cyclic
timers_after_one now timers (Cancel timer) = after_cancel timers timer
timers_after_one now timers effect = timers

-- the timers after the settings and cancellings, in order, at a moment
abbrev pub timers_after : ℕ → Timers → List Effect → Timers
timers_after now timers effects = fold (timers_after_one now) timers effects

-- an effect names a timer among so many, and sets it for a duration that can be set
abbrev pub IsTimerEffect : ℕ → Effect → Type 0
IsTimerEffect count (Set timer micros cyclic) = (timer < count) × IsDuration micros
IsTimerEffect count (Cancel timer) = timer < count
IsTimerEffect count effect = ⊤

-- whether a run that ended so halts its node
abbrev pub halts : Outcome → Bool
halts Done = false
halts outcome = true

-- the line that tells a halt, where there is one
abbrev pub halt_lines : Outcome → List (List ℕ)
halt_lines Done = []
halt_lines (Trapped ZeroDivisor) = codes "trap zero divisor" ∷ []
halt_lines (Trapped Index) = codes "trap index" ∷ []
halt_lines Cut = codes "turn limit" ∷ []

-- ---- What the tasks of a node leave in a record and on a bus.

-- the lines of a node at a moment, as entries
abbrev pub line_entries : ℕ → ℕ → List (List ℕ) → List Noted
line_entries now node lines = map (λ text. entry.Line now node text) lines

-- a record took entries in order: before, the entries, after
abbrev pub TakesEntries : {R : Type 0} → RecordMeaning R → R → List Noted → R → Type 0
TakesEntries {R} meaning before [] after = after ≡ before
TakesEntries {R} meaning before (noted ∷ entries) after =
    (between : R) × TakesEntry meaning before noted between × TakesEntries meaning between entries after

-- the bus after the requests of a node, in order
abbrev pub after_requests : {B : Type 0} → (B → ℕ → FrameFields → B) → B → ℕ → List FrameFields → B
after_requests {B} after_request bus node frames = fold (λ b frame. after_request b node frame) bus frames
