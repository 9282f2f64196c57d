-- Effects one by one come to their sums.
use Rattle.std.proofs.Common.{◌≡◌, ℕ, Bool, true, false, ◌||◌, List, [], ◌∷◌, refl, sym, subst, ◌∙◌}
use Rattle.std.proofs.lemmas.List.Elements.{All-nil, All-cons}
use Rattle.can_frame.specs.Frame.{FrameFields}
use Rattle.run_effects.specs.Effect.{Effect, Line, Send, Stop, Set, Cancel}
use Rattle.run_records.specs.Record.{RecordMeaning}
use Rattle.node_rounds.specs.Effects.{IsTimerEffect, timers_after_one}
use Rattle.node_run.specs.Inside.Host.{ComeTo, Parts, PartsTake}

-- parts took effects in order
abbrev pub PartsTakeAll : {B R : Type 0} → (B → ℕ → FrameFields → B) → RecordMeaning R → Parts B R → List Effect → Parts B R → Type 0
PartsTakeAll {B} {R} after_request meaning before [] after = after ≡ before
PartsTakeAll {B} {R} after_request meaning before (effect ∷ effects) after =
    (between : Parts B R) × PartsTake after_request meaning before effect between × PartsTakeAll after_request meaning between effects after

or_stops : (a b : Bool) → ((a || true) || b) ≡ (a || true)
or_stops true b = refl
or_stops false b = refl

or_false : (a : Bool) → a ≡ (a || false)
or_false true = refl
or_false false = refl

or_true : (a : Bool) → true ≡ (a || true)
or_true true = refl
or_true false = refl

-- effects in order come to their sums
pub come_to : {B R : Type 0} (after_request : B → ℕ → FrameFields → B) (meaning : RecordMeaning R) (before : Parts B R) (effects : List Effect) (after : Parts B R)
    → PartsTakeAll after_request meaning before effects after → ComeTo after_request meaning before effects after
come_to after_request meaning before [] after same =
    subst (λ p. ComeTo after_request meaning before [] p) (sym same)
    (record { number = refl; moment = refl; lines = refl; requests = refl; stops = or_false before.stops; timers = refl; of_timers = All-nil (IsTimerEffect before.timers.count) })
come_to after_request meaning before (Line text ∷ effects) after t =
    let then = record before { into = t.0.into } in
    let r = come_to after_request meaning then effects after (subst (λ p. PartsTakeAll after_request meaning p effects after) t.1.1 t.2) in
    record {
      number = r.number;
      moment = r.moment;
      lines = (t.0.into, t.1.0, r.lines);
      requests = r.requests;
      stops = r.stops;
      timers = r.timers;
      of_timers = All-cons (IsTimerEffect before.timers.count) (Line text) effects tt r.of_timers;
    }
come_to after_request meaning before (Send frame ∷ effects) after t =
    let then = record before { bus = after_request before.bus before.number frame } in
    let r = come_to after_request meaning then effects after (subst (λ p. PartsTakeAll after_request meaning p effects after) t.1 t.2) in
    record {
      number = r.number;
      moment = r.moment;
      lines = r.lines;
      requests = r.requests;
      stops = r.stops;
      timers = r.timers;
      of_timers = All-cons (IsTimerEffect before.timers.count) (Send frame) effects tt r.of_timers;
    }
come_to after_request meaning before (Stop ∷ effects) after t =
    let then = record before { stops = true } in
    let r = come_to after_request meaning then effects after (subst (λ p. PartsTakeAll after_request meaning p effects after) t.1 t.2) in
    record {
      number = r.number;
      moment = r.moment;
      lines = r.lines;
      requests = r.requests;
      stops = r.stops ∙ or_true before.stops;
      timers = r.timers;
      of_timers = All-cons (IsTimerEffect before.timers.count) Stop effects tt r.of_timers;
    }
come_to after_request meaning before (Set timer micros cyclic ∷ effects) after t =
    let then = record before { timers = timers_after_one before.moment before.timers (Set timer micros cyclic) } in
    let r = come_to after_request meaning then effects after (subst (λ p. PartsTakeAll after_request meaning p effects after) t.1.1 t.2) in
    record {
      number = r.number;
      moment = r.moment;
      lines = r.lines;
      requests = r.requests;
      stops = r.stops;
      timers = r.timers;
      of_timers = All-cons (IsTimerEffect before.timers.count) (Set timer micros cyclic) effects t.1.0 r.of_timers;
    }
come_to after_request meaning before (Cancel timer ∷ effects) after t =
    let then = record before { timers = timers_after_one before.moment before.timers (Cancel timer) } in
    let r = come_to after_request meaning then effects after (subst (λ p. PartsTakeAll after_request meaning p effects after) t.1.1 t.2) in
    record {
      number = r.number;
      moment = r.moment;
      lines = r.lines;
      requests = r.requests;
      stops = r.stops;
      timers = r.timers;
      of_timers = All-cons (IsTimerEffect before.timers.count) (Cancel timer) effects t.1.0 r.of_timers;
    }
