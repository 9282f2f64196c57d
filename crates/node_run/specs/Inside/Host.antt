-- What the host of a task does with effects, over the values of its parts.
use Rattle.std.specs.Prelude.{◌≡◌, ℕ, Bool, true, ◌||◌, List, All}
use Rattle.can_frame.specs.Frame.{FrameFields}
use Rattle.run_effects.specs.Effect.{Effect, Line, Send, Stop}
use Rattle.run_records.specs.declared.record.Noted.TheVariants as entry
use Rattle.run_records.specs.Record.{RecordMeaning, RefusesEntry, TakesEntry}
use Rattle.timer_queue.specs.Timers.{Timers}
use Rattle.node_rounds.specs.Effects.{IsTimerEffect, written_lines, requested_frames, stops_of, timers_after, timers_after_one, TakesEntries, after_requests, line_entries}

-- the parts of a host: the number of its node, the moment, whether a stop was asked for, the bus, the record
-- and the timers
pub record Parts (B R : Type 0) : Type 0 where
  pub number : ℕ
  pub moment : ℕ
  pub stops : Bool
  pub bus : B
  pub into : R
  pub timers : Timers

-- these parts
abbrev pub parts : {B R : Type 0} → ℕ → ℕ → Bool → B → R → Timers → Parts B R
parts {B} {R} number moment stops bus into timers =
    record { number = number; moment = moment; stops = stops; bus = bus; into = into; timers = timers }

-- how parts stand after they took an effect
abbrev pub PartsTake : {B R : Type 0} → (B → ℕ → FrameFields → B) → RecordMeaning R →
    Parts B R → Effect → Parts B R → Type 0
PartsTake {B} {R} after_request meaning before (Line text) after =
    TakesEntry meaning before.into (entry.Line before.moment before.number text) after.into
    × (after ≡ record before { into = after.into })
PartsTake {B} {R} after_request meaning before (Send frame) after =
    after ≡ record before { bus = after_request before.bus before.number frame }
PartsTake {B} {R} after_request meaning before Stop after = after ≡ record before { stops = true }
PartsTake {B} {R} after_request meaning before effect after =
    IsTimerEffect before.timers.count effect
    × (after ≡ record before { timers = timers_after_one before.moment before.timers effect })

-- how the record stands after parts refused an effect: it refused exactly this line, or stands as it was
-- where a frame was refused; nothing else is refused, and the timers are the same
abbrev pub PartsRefuse : {B R : Type 0} → RecordMeaning R → Parts B R → Effect → Parts B R → Type 0
PartsRefuse {B} {R} meaning before (Line text) after =
    RefusesEntry meaning before.into (entry.Line before.moment before.number text) after.into
    × (after.timers ≡ before.timers)
PartsRefuse {B} {R} meaning before (Send frame) after =
    (after.into ≡ before.into) × (after.timers ≡ before.timers)
PartsRefuse {B} {R} meaning before effect after = ⊥

-- what parts come to by effects in order
pub record ComeTo {B R : Type 0} (after_request : B → ℕ → FrameFields → B) (meaning : RecordMeaning R)
    (before : Parts B R) (effects : List Effect) (after : Parts B R) : Type 0 where
  pub number : after.number ≡ before.number
  pub moment : after.moment ≡ before.moment
  pub lines : TakesEntries meaning before.into
      (line_entries before.moment before.number (written_lines effects)) after.into
  pub requests : after.bus ≡ after_requests after_request before.bus before.number (requested_frames effects)
  pub stops : after.stops ≡ (before.stops || stops_of effects)
  pub timers : after.timers ≡ timers_after before.moment before.timers effects
  pub of_timers : All (IsTimerEffect before.timers.count) effects
