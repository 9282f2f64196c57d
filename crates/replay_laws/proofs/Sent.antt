-- Each frame that leaves the wire was asked for.
use Rattle.std.proofs.Common.{ℕ, List, [], ◌∷◌, sym, subst, inl, inr}
use Rattle.std.specs.Prelude.{Option, None, Some, All, IfSome}
use Rattle.std.proofs.lemmas.List.Elements.{All-nil, All-cons, All-head, All-tail, All-append}
use Rattle.can_frame.specs.Frame.{FrameFields}
use Rattle.can_bus.specs.declared.bus.Ended.{Ended}
use Rattle.can_bus.specs.Bus.{BusState, Carries, new_bus, after_request, ended, after_finish}
use Rattle.can_bus.proofs.FramesCome.{carries-after_request, carries-after_finish, carries-after_arbitration, ended-carried, new_bus-carries_none}
use Rattle.replay_laws.proofs.Instants.{Ask, Instant, with_asks, after_instant, logged_at, logged}

module _ (P : FrameFields → Type 0) where
  -- it holds of each frame on the bus
  abbrev Holds : BusState → Type 0
  Holds s = (f : FrameFields) → Carries s f → P f

  holds-asked : (s : BusState) (asks : List Ask) → All (λ a. P a.frame) asks → Holds s → Holds (with_asks s asks)
  holds-asked s [] all h = h
  holds-asked s (ask ∷ asks) all h =
      holds-asked (after_request s ask.node ask.frame) asks (All-tail (λ a. P a.frame) ask asks all)
      (λ f carries.
      elim (carries-after_request s ask.node ask.frame f carries) [
        | inl same ↦ subst P (sym same) (All-head (λ a. P a.frame) ask asks all)
        | inr before ↦ h f before
      ])

  holds-instant : (s : BusState) (i : Instant) → All (λ a. P a.frame) i.asks → Holds s → Holds (after_instant s i)
  holds-instant s i all h f carries =
      holds-asked (after_finish s i.moment) i.asks all (λ g before. h g (carries-after_finish s i.moment g before)) f
      (carries-after_arbitration (with_asks (after_finish s i.moment) i.asks) i.moment f carries)

  sent_at : (now : ℕ) (e : Option Ended) → IfSome e (λ one. P one.frame) → All (λ l. P l.frame) (logged_at now e)
  sent_at now None h = All-nil _
  sent_at now (Some e) h = All-cons (λ l. P l.frame) (record { moment = now; frame = e.frame }) [] h (All-nil _)

  if_some : (s : BusState) (e : Option Ended) → Holds s → IfSome e (λ one. Carries s one.frame) → IfSome e (λ one. P one.frame)
  if_some s None h carries = tt
  if_some s (Some e) h carries = h e.frame carries

  all_sent : (s : BusState) (instants : List Instant) → Holds s → All (λ i. All (λ a. P a.frame) i.asks) instants → All (λ e. P e.frame) (logged s instants)
  all_sent s [] h all = All-nil _
  all_sent s (i ∷ instants) h all =
      All-append (λ e. P e.frame) (logged_at i.moment (ended s i.moment)) (logged (after_instant s i) instants)
      (sent_at i.moment (ended s i.moment) (if_some s (ended s i.moment) h (ended-carried s i.moment)))
      (all_sent (after_instant s i) instants (holds-instant s i (All-head (λ j. All (λ a. P a.frame) j.asks) i instants all) h) (All-tail (λ j. All (λ a. P a.frame) j.asks) i instants all))

  -- on a new bus, what holds of each frame that is asked for holds of each that leaves the wire
  pub logged_sent : (bit : ℕ) (instants : List Instant) → All (λ i. All (λ a. P a.frame) i.asks) instants → All (λ e. P e.frame) (logged (new_bus bit) instants)
  logged_sent bit instants all = all_sent (new_bus bit) instants (λ f carries. absurd (new_bus-carries_none bit f carries)) all
