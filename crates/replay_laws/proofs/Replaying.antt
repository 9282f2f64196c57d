-- A bus to which only the frames of a well spaced list come, each at its start, logs this list.
use Rattle.std.proofs.Common.{◌≡◌, ℕ, ◌+◌, ◌-◌, ◌*◌, ◌^◌, ◌<◌, ◌≤◌, Bool, true, false, cond, List, [], ◌∷◌, ◌++◌, map, max, min, refl, sym, ap, subst, ◌∙◌, inl, inr, arith}
use Rattle.std.specs.Prelude.{None, Some, IfSome, is_some, nat_le}
use Rattle.std.specs.Ordering.{nat_cmp}
use Rattle.std.specs.FinMap.{FinMap, empty}
use Rattle.std.proofs.lemmas.Bool.Decides.{eqb_tells, nat_tests}
use Rattle.std.proofs.lemmas.Bool.{cases_lt}
use Rattle.can_frame.specs.Frame.{FrameFields}
use Rattle.frame_bits.specs.Length.{frame_length}
use Rattle.can_bus.specs.declared.bus.Ended.{Ended}
use Rattle.can_bus.specs.declared.transmission.Transmission.{Transmission}
use Rattle.can_bus.specs.Bus.{BusState, new_bus, ended, after_arbitration, next_moment}
use Rattle.replay_node.specs.declared.replay.Request.{Request}
use Rattle.run_meaning.specs.Live.{next_request}
use Rattle.run_meaning.specs.Moments.{requests_at, requests_after}
use Rattle.run_meaning.proofs.UpTo.{requests_after_more, requests_at_more}
use Rattle.replay_laws.proofs.Instants.{Logged, Ask, Instant, with_asks, after_instant, logged_at, logged, AreSpaced}
use Rattle.replay_laws.proofs.Alone.{idle_bus, sending, nothing_begins, begins}

-- when a frame is asked for: at its start, and not before the one before
abbrev pub asks_at : ℕ → ℕ → Logged → ℕ
asks_at bit before e = max before (min (e.moment - frame_length e.frame * bit) (2 ^ 64 - 1))

-- the requests of a list of frames
abbrev pub replayed : ℕ → ℕ → List Logged → List Request
replayed bit before [] = []
replayed bit before (e ∷ es) = record { at = asks_at bit before e; frame = e.frame } ∷ replayed bit (asks_at bit before e) es

-- frames that a node asks for
abbrev pub asks_of : ℕ → List FrameFields → List Ask
asks_of node frames = map (λ frame. record { node = node; frame = frame }) frames

-- Instants at which nothing is asked for but the requests: each is at what the bus or the requests have due
-- next, or before it, and at the last moment or before. In the end nothing is due up to the last moment.
abbrev pub AreReplays : ℕ → BusState → List Request → List Instant → Type 0
AreReplays last s rs [] = IfSome (next_moment s) (λ due. last < due) × IfSome (next_request rs) (λ due. last < due)
AreReplays last s rs (i ∷ instants) =
    IfSome (next_moment s) (λ due. i.moment ≤ due) × IfSome (next_request rs) (λ due. i.moment ≤ due) × (i.moment ≤ last)
    × ((node : ℕ) × (i.asks ≡ asks_of node (requests_at i.moment rs))) × AreReplays last (after_instant s i) (requests_after i.moment rs) instants

-- ---- the moments of the requests
-- a frame that starts in time asks at its start
at_start : (before stamp from time last greatest : ℕ) → from + time ≤ stamp → before ≤ from → stamp ≤ last → last ≤ greatest → max before (min (stamp - time) greatest) + time ≡ stamp
at_start before stamp from time last greatest low earlier inside reached = omega arith

not_now : (at now : ℕ) → now < at → nat_le at now ≡ false
not_now at now later = grind (arith, nat_tests)

is_now : (at now : ℕ) → at ≡ now → nat_le at now ≡ true
is_now at now same = grind (arith, nat_tests)

-- requests that are later wait
module _ (bit last before from : ℕ) (reached : last ≤ 2 ^ 64 - 1) (earlier : before ≤ from) where
  starts_late : (now : ℕ) (e : Logged) (es : List Logged) → now < from → AreSpaced bit last from (e ∷ es) → now < asks_at bit before e
  starts_late now e es soon spaced = let start = at_start before e.moment from (frame_length e.frame * bit) last (2 ^ 64 - 1) spaced.0 earlier spaced.1 reached in omega arith

  none_due : (now : ℕ) (es : List Logged) → now < from → AreSpaced bit last from es → requests_at now (replayed bit before es) ≡ []
  none_due now [] soon spaced = refl
  none_due now (e ∷ es) soon spaced =
      let rs = replayed bit (asks_at bit before e) es in
      let first : Request = record { at = asks_at bit before e; frame = e.frame } in
      requests_at_more now first rs ∙ ap (λ b. cond b (e.frame ∷ requests_at now rs) []) (not_now _ now (starts_late now e es soon spaced))

  all_left : (now : ℕ) (es : List Logged) → now < from → AreSpaced bit last from es → requests_after now (replayed bit before es) ≡ replayed bit before es
  all_left now [] soon spaced = refl
  all_left now (e ∷ es) soon spaced =
      let rs = replayed bit (asks_at bit before e) es in
      let first : Request = record { at = asks_at bit before e; frame = e.frame } in
      requests_after_more now first rs ∙ ap (λ b. cond b (requests_after now rs) (first ∷ rs)) (not_now _ now (starts_late now e es soon spaced))

-- ---- how the bus stands to what is still to be logged
module _ (bit last : ℕ) (timed : 1 ≤ bit) (small : last < 2 ^ 64) where
  reached : last ≤ 2 ^ 64 - 1
  reached = omega arith

  data Stands : BusState → List Logged → List Request → Type 0 where
    -- idle, and free when the next frame starts
    idle : (free before from : ℕ) (next : FinMap nat_cmp ℕ) (es : List Logged) → free ≤ from → before ≤ from → AreSpaced bit last from es → Stands (idle_bus bit None free next) es (replayed bit before es)
    -- the next frame is on the wire
    busy : (t : Transmission) (before : ℕ) (next : FinMap nat_cmp ℕ) (es : List Logged) → t.end ≤ last → before ≤ t.end → AreSpaced bit last (t.end + 3 * bit) es
        → Stands (idle_bus bit (Some t) (t.end + 3 * bit) next) (record { moment = t.end; frame = t.request.frame } ∷ es) (replayed bit before es)

  -- an instant logs the front of what is still to be logged
  abbrev Steps : BusState → List Logged → List Request → Instant → Type 0
  Steps s es rs i = (rest : List Logged) × (es ≡ logged_at i.moment (ended s i.moment) ++ rest) × Stands (after_instant s i) rest (requests_after i.moment rs)

  abbrev Asks : Instant → List Request → Type 0
  Asks i rs = (node : ℕ) × (i.asks ≡ asks_of node (requests_at i.moment rs))

  -- with no request on an idle bus
  idle_waits : (i : Instant) (free before from : ℕ) (next : FinMap nat_cmp ℕ) (es : List Logged) → free ≤ from → before ≤ from → AreSpaced bit last from es
      → requests_at i.moment (replayed bit before es) ≡ [] → requests_after i.moment (replayed bit before es) ≡ replayed bit before es
      → Asks i (replayed bit before es) → Steps (idle_bus bit None free next) es (replayed bit before es) i
  idle_waits i free before from next es low earlier spaced none stay asks =
      let s = idle_bus bit None free next in
      let nothing : i.asks ≡ [] = asks.1 ∙ ap (asks_of asks.0) none in
      let same : after_instant s i ≡ s = ap (λ as'. after_arbitration (with_asks s as') i.moment) nothing ∙ nothing_begins bit None free next i.moment in (
        es,
        refl,
        subst (λ t. Stands t es (requests_after i.moment (replayed bit before es))) (sym same) (subst (Stands s es) (sym stay) (idle free before from next es low earlier spaced)),
      )

  -- a frame begins
  idle_begins : (i : Instant) (free before from : ℕ) (next : FinMap nat_cmp ℕ) (e : Logged) (es : List Logged) → free ≤ from → before ≤ from → AreSpaced bit last from (e ∷ es)
      → asks_at bit before e ≡ i.moment → Asks i (replayed bit before (e ∷ es)) → Steps (idle_bus bit None free next) (e ∷ es) (replayed bit before (e ∷ es)) i
  idle_begins i free before from next e es low earlier spaced now asks =
      let s = idle_bus bit None free next in
      let at = asks_at bit before e in
      let time = frame_length e.frame * bit in
      let rs = replayed bit at es in
      let first : Request = record { at = at; frame = e.frame } in
      let start : at + time ≡ e.moment = at_start before e.moment from time last (2 ^ 64 - 1) spaced.0 earlier spaced.1 reached in
      let behind : at ≤ e.moment + 3 * bit = omega arith in
      let soon : i.moment < e.moment + 3 * bit = omega arith in
      let here = is_now at i.moment now in
      let due : requests_at i.moment (replayed bit before (e ∷ es)) ≡ e.frame ∷ [] =
      requests_at_more i.moment first rs ∙ ap (λ b. cond b (e.frame ∷ requests_at i.moment rs) []) here
      ∙ ap (λ q. e.frame ∷ q) (none_due bit last at (e.moment + 3 * bit) reached behind i.moment es soon spaced.2) in
      let stay : requests_after i.moment (replayed bit before (e ∷ es)) ≡ rs =
      requests_after_more i.moment first rs ∙ ap (λ b. cond b (requests_after i.moment rs) (first ∷ rs)) here
      ∙ all_left bit last at (e.moment + 3 * bit) reached behind i.moment es soon spaced.2 in
      let one : i.asks ≡ record { node = asks.0; frame = e.frame } ∷ [] = asks.1 ∙ ap (asks_of asks.0) due in
      let begun = begins bit free next asks.0 e.frame i.moment (omega arith) in
      let t : Transmission = sending bit i.moment (record { node = asks.0; number = begun.0; frame = e.frame }) in
      let same : after_instant s i ≡ idle_bus bit (Some t) (t.end + 3 * bit) begun.1 = ap (λ as'. after_arbitration (with_asks s as') i.moment) one ∙ begun.2 in
      let moment : e.moment ≡ t.end = omega arith in
      let rest : List Logged = record { moment = t.end; frame = e.frame } ∷ es in (
        rest,
        ap (λ m. record { moment = m; frame = e.frame } ∷ es) moment,
        subst (λ u. Stands u rest (requests_after i.moment (replayed bit before (e ∷ es)))) (sym same)
            (subst (Stands (idle_bus bit (Some t) (t.end + 3 * bit) begun.1) rest) (sym stay)
            (busy t at begun.1 es (let inside = spaced.1 in omega arith) (omega arith) (subst (λ m. AreSpaced bit last (m + 3 * bit) es) moment spaced.2))),
      )

  idle_steps : (i : Instant) (free before from : ℕ) (next : FinMap nat_cmp ℕ) (es : List Logged) → free ≤ from → before ≤ from → AreSpaced bit last from es
      → IfSome (next_request (replayed bit before es)) (λ due. i.moment ≤ due) → Asks i (replayed bit before es) → Steps (idle_bus bit None free next) es (replayed bit before es) i
  idle_steps i free before from next [] low earlier spaced within asks = idle_waits i free before from next [] low earlier spaced refl refl asks
  idle_steps i free before from next (e ∷ es) low earlier spaced within asks =
      let at = asks_at bit before e in
      let rs = replayed bit at es in
      let first : Request = record { at = at; frame = e.frame } in
      elim (cases_lt i.moment at) [
        | inl later ↦ idle_waits i free before from next (e ∷ es) low earlier spaced
            (requests_at_more i.moment first rs ∙ ap (λ b. cond b (e.frame ∷ requests_at i.moment rs) []) (not_now at i.moment later))
            (requests_after_more i.moment first rs ∙ ap (λ b. cond b (requests_after i.moment rs) (first ∷ rs)) (not_now at i.moment later)) asks
        | inr here ↦ idle_begins i free before from next e es low earlier spaced (omega arith) asks
      ]

  -- the wire is busy, or its frame ends
  busy_steps : (i : Instant) (t : Transmission) (before : ℕ) (next : FinMap nat_cmp ℕ) (es : List Logged) → t.end ≤ last → before ≤ t.end → AreSpaced bit last (t.end + 3 * bit) es
      → i.moment ≤ t.end → Asks i (replayed bit before es)
      → Steps (idle_bus bit (Some t) (t.end + 3 * bit) next) (record { moment = t.end; frame = t.request.frame } ∷ es) (replayed bit before es) i
  busy_steps i t before next es inside earlier spaced within asks =
      let on = idle_bus bit (Some t) (t.end + 3 * bit) next in
      let off = idle_bus bit None (t.end + 3 * bit) next in
      let rs = replayed bit before es in
      let from = t.end + 3 * bit in
      let none = none_due bit last before from reached (omega arith) i.moment es (omega arith) spaced in
      let stay = all_left bit last before from reached (omega arith) i.moment es (omega arith) spaced in
      let nothing : i.asks ≡ [] = asks.1 ∙ ap (asks_of asks.0) none in
      let whole : List Logged = record { moment = t.end; frame = t.request.frame } ∷ es in
      let sent : Ended = record { node = t.request.node; frame = t.request.frame } in
      let P : Bool → Type 0 = λ b. (rest : List Logged) × (whole ≡ logged_at i.moment (cond b (Some sent) None) ++ rest)
      × Stands (after_arbitration (with_asks (cond (is_some (cond b (Some sent) None)) off on) i.asks) i.moment) rest (requests_after i.moment rs) in
      elim (eqb_tells t.end i.moment) [
        | inl ends ↦ subst P (sym ends.0) (
          es,
          ap (λ m. record { moment = m; frame = t.request.frame } ∷ es) ends.1,
          subst (λ as'. Stands (after_arbitration (with_asks off as') i.moment) es (requests_after i.moment rs)) (sym nothing)
              (subst (λ u. Stands u es (requests_after i.moment rs)) (sym (nothing_begins bit None (t.end + 3 * bit) next i.moment))
              (subst (Stands off es) (sym stay) (idle (t.end + 3 * bit) before from next es (omega arith) (omega arith) spaced))),
        )
        | inr later ↦ subst P (sym later.0) (
          whole,
          refl,
          subst (λ as'. Stands (after_arbitration (with_asks on as') i.moment) whole (requests_after i.moment rs)) (sym nothing)
              (subst (Stands on whole) (sym stay) (busy t before next es inside earlier spaced)),
        )
      ]

  steps : (s : BusState) (es : List Logged) (rs : List Request) (i : Instant) → Stands s es rs → IfSome (next_moment s) (λ due. i.moment ≤ due) → IfSome (next_request rs) (λ due. i.moment ≤ due)
      → Asks i rs → Steps s es rs i
  steps s _ rs i (idle free before from next es low earlier spaced) bus source asks = idle_steps i free before from next es low earlier spaced source asks
  steps s _ rs i (busy t before next es inside earlier spaced) bus source asks = busy_steps i t before next es inside earlier spaced bus asks

  -- in the end nothing is left
  ends : (s : BusState) (es : List Logged) (rs : List Request) → Stands s es rs → IfSome (next_moment s) (λ due. last < due) → IfSome (next_request rs) (λ due. last < due) → es ≡ []
  ends s _ rs (idle free before from next [] low earlier spaced) bus source = refl
  ends s _ rs (idle free before from next (e ∷ es) low earlier spaced) bus source =
      let start = at_start before e.moment from (frame_length e.frame * bit) last (2 ^ 64 - 1) spaced.0 earlier spaced.1 reached in let inside = spaced.1 in absurd (omega arith)
  ends s _ rs (busy t before next es inside earlier spaced) bus source = absurd (omega arith)

  logs : (s : BusState) (es : List Logged) (rs : List Request) (instants : List Instant) → Stands s es rs → AreReplays last s rs instants → logged s instants ≡ es
  logs s es rs [] stands run = sym (ends s es rs stands run.0 run.1)
  logs s es rs (i ∷ instants) stands run =
      let step = steps s es rs i stands run.0 run.1 run.3 in
      ap (λ l. logged_at i.moment (ended s i.moment) ++ l) (logs (after_instant s i) step.0 (requests_after i.moment rs) instants step.2 run.4) ∙ sym step.1

-- on a new bus
pub logged_again : (bit last : ℕ) (es : List Logged) (instants : List Instant) → 1 ≤ bit → last < 2 ^ 64 → AreSpaced bit last 0 es → AreReplays last (new_bus bit) (replayed bit 0 es) instants
    → logged (new_bus bit) instants ≡ es
logged_again bit last es instants timed small spaced run =
    logs bit last timed small (new_bus bit) es (replayed bit 0 es) instants (idle 0 0 0 empty es (omega arith) (omega arith) spaced) run
