-- What leaves the wire is well spaced, whatever is asked for.
use Rattle.std.proofs.Common.{◌≡◌, ℕ, ◌+◌, ◌*◌, ◌≤◌, Bool, true, false, cond, eqb, List, [], ◌∷◌, ◌++◌, refl, sym, ap, subst, ◌∙◌, inl, inr, arith}
use Rattle.std.specs.Prelude.{Option, None, Some, All, is_some}
use Rattle.std.specs.Option.{option_map, option_map_or}
use Rattle.std.specs.Ordering.{nat_cmp}
use Rattle.std.specs.FinMap.{FinMap}
use Rattle.std.proofs.lemmas.Bool.Decides.{leb_tells, eqb_tells}
use Rattle.std.proofs.lemmas.List.Elements.{All-head, All-tail}
use Rattle.frame_bits.specs.Length.{frame_length}
use Rattle.can_frame.specs.Frame.{FrameFields}
use Rattle.can_bus.specs.declared.bus.Ended.{Ended}
use Rattle.can_bus.specs.declared.transmission.Transmission.{Transmission}
use Rattle.can_bus.specs.declared.waiting.Waiting.{Waiting}
use Rattle.can_bus.specs.Bus.{time_on_wire, BusState, new_bus, next_number, last_number, transmission_with_rank, with_ranks, with_request, after_request, ended, after_finish, with_transmission, after_arbitration}
use Rattle.can_bus.specs.Waiting.{Requests, winner}
use Rattle.can_bus.proofs.RankLemmas.{with_ranks-is}
use Rattle.replay_laws.proofs.Instants.{Logged, Ask, Instant, with_asks, after_instant, logged_at, logged, AreSpaced}

-- the frame on the wire and its end
abbrev pub carried : Option Transmission → Option Logged
carried None = None
carried (Some t) = Some (record { moment = t.end; frame = t.request.frame })

-- what a request leaves as it is
pub record Timing : Type 0 where
  pub carries : Option Logged
  pub free : ℕ
  pub bit : ℕ

-- that of a bus
abbrev pub timing : BusState → Timing
timing s = record { carries = carried s.wire; free = s.free; bit = s.bit }

-- ---- requests
kept_frame : (b : Bool) (r : Waiting) (n : ℕ) → (cond b (record r { number = n }) r).frame ≡ r.frame
kept_frame true r n = refl
kept_frame false r n = refl

kept_carried : (s : BusState) (node : ℕ) (wire : Option Transmission) → carried (option_map (transmission_with_rank s node) wire) ≡ carried wire
kept_carried s node None = refl
kept_carried s node (Some t) = ap (λ f. Some (record { moment = t.end; frame = f })) (kept_frame (eqb t.request.node node) t.request _)

timing-with_ranks : (s : BusState) (node : ℕ) → timing (with_ranks s node) ≡ timing s
timing-with_ranks s node = ap timing (with_ranks-is s node) ∙ ap (λ o. record { carries = o; free = s.free; bit = s.bit }) (kept_carried s node s.wire)

-- a request leaves it
pub timing-after_request : (s : BusState) (node : ℕ) (f : FrameFields) → timing (after_request s node f) ≡ timing s
timing-after_request s node f =
    elim (eqb (next_number s node) last_number) as (λ b. timing (with_request (cond b (with_ranks s node) s) node f) ≡ timing s) [
      | true ↦ timing-with_ranks s node
      | false ↦ refl
    ]

-- and so do requests
pub timing-with_asks : (s : BusState) (asks : List Ask) → timing (with_asks s asks) ≡ timing s
timing-with_asks s [] = refl
timing-with_asks s (ask ∷ asks) = timing-with_asks (after_request s ask.node ask.frame) asks ∙ timing-after_request s ask.node ask.frame

-- ---- the next frame ends in time for its start to be at `from` or later
abbrev CarriesFrom : ℕ → ℕ → ℕ → Option Logged → Type 0
CarriesFrom bit from free None = from ≤ free
CarriesFrom bit from free (Some e) = (from + frame_length e.frame * bit ≤ e.moment) × (e.moment + 3 * bit ≤ free)

abbrev Fits : ℕ → ℕ → Timing → Type 0
Fits bit from t = (t.bit ≡ bit) × CarriesFrom bit from t.free t.carries

-- arbitration keeps this
module _ (bit from now : ℕ) where
  fits-begun : (s : BusState) (o : Option Waiting) → s.wire ≡ None → s.free ≤ now → Fits bit from (timing s)
      → Fits bit from (timing (option_map_or (λ r. with_transmission s now (time_on_wire r.frame s.bit) r) o s))
  fits-begun s None off reached h = h
  fits-begun s (Some r) off reached h =
      let low : from ≤ s.free = subst (λ w. CarriesFrom bit from s.free (carried w)) off h.1 in
      let same = h.0 in
      (h.0, ((let e = ap (λ b. frame_length r.frame * b) same in omega arith), omega arith))

  fits-arbitrated : (waiting : Requests) (free : ℕ) (next : FinMap nat_cmp ℕ) (b : ℕ) (wire : Option Transmission)
      → (let s : BusState = record { waiting = waiting; wire = wire; free = free; next = next; bit = b } in Fits bit from (timing s) → Fits bit from (timing (after_arbitration s now)))
  fits-arbitrated waiting free next b (Some t) = λ h. h
  fits-arbitrated waiting free next b None = λ h.
      let s : BusState = record { waiting = waiting; wire = None; free = free; next = next; bit = b } in
      let After : Bool → Type 0 = λ ready. Fits bit from (timing (option_map_or (λ r. with_transmission s now (time_on_wire r.frame b) r) (cond ready (winner waiting) None) s)) in
      elim (leb_tells free now) [
        | inl reached ↦ subst After (sym reached.0) (fits-begun s (winner waiting) refl reached.1 h)
        | inr early ↦ subst After (sym early.0) h
      ]

-- ---- an instant
module _ (bit last : ℕ) where
  -- the rest of what leaves the wire, where the wire is as the end of a frame leaves it
  spaced-finished : (waiting : Requests) (free : ℕ) (next : FinMap nat_cmp ℕ) (b : ℕ) (wire : Option Transmission) (from now : ℕ) (rest : List Logged) → now ≤ last
      → (let s : BusState = record { waiting = waiting; wire = wire; free = free; next = next; bit = b } in
      Fits bit from (timing s) → ((low : ℕ) → Fits bit low (timing (after_finish s now)) → AreSpaced bit last low rest) → AreSpaced bit last from (logged_at now (ended s now) ++ rest))
  spaced-finished waiting free next b None from now rest within = λ h go. go from h
  spaced-finished waiting free next b (Some t) from now rest within = λ h go.
      let on : BusState = record { waiting = waiting; wire = Some t; free = free; next = next; bit = b } in
      let off : BusState = record { waiting = waiting; wire = None; free = free; next = next; bit = b } in
      let sent : Ended = record { node = t.request.node; frame = t.request.frame } in
      let P : Bool → Type 0 = λ b.
      ((low : ℕ) → Fits bit low (timing (cond (is_some (cond b (Some sent) None)) off on)) → AreSpaced bit last low rest) → AreSpaced bit last from (logged_at now (cond b (Some sent) None) ++ rest) in
      elim (eqb_tells t.end now) [
        | inl ends ↦ subst P (sym ends.0) (λ again. let at = ends.1 in (omega arith, omega arith, again (now + 3 * bit) (h.0, omega arith))) go
        | inr later ↦ subst P (sym later.0) (λ again. again from h) go
      ]

  spaced-instant : (s : BusState) (i : Instant) (from : ℕ) → Fits bit from (timing (after_finish s i.moment)) → Fits bit from (timing (after_instant s i))
  spaced-instant s i from h =
      let a = with_asks (after_finish s i.moment) i.asks in
      fits-arbitrated bit from i.moment a.waiting a.free a.next a.bit a.wire (subst (Fits bit from) (sym (timing-with_asks (after_finish s i.moment) i.asks)) h)

  spaced : (s : BusState) (instants : List Instant) (from : ℕ) → Fits bit from (timing s) → All (λ i. i.moment ≤ last) instants → AreSpaced bit last from (logged s instants)
  spaced s [] from h within = tt
  spaced s (i ∷ instants) from h within =
      spaced-finished s.waiting s.free s.next s.bit s.wire from i.moment (logged (after_instant s i) instants) (All-head (λ j. j.moment ≤ last) i instants within) h
      (λ low fits. spaced (after_instant s i) instants low (spaced-instant s i low fits) (All-tail (λ j. j.moment ≤ last) i instants within))

-- what leaves the wire of a new bus is well spaced
pub logged_spaced : (bit last : ℕ) (instants : List Instant) → All (λ i. i.moment ≤ last) instants → AreSpaced bit last 0 (logged (new_bus bit) instants)
logged_spaced bit last instants within = spaced bit last (new_bus bit) instants 0 (refl, omega arith) within
