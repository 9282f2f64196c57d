-- Each call leaves a bus with planned errors paced: where a transmission begins, the bus is free later.
use Rattle.std.proofs.Common.{◌≡◌, ℕ, ◌≤◌, Bool, true, false, cond, ◌&&◌, eqb, leb, refl, sym, ap, subst, arith}
use Rattle.std.specs.Prelude.{Option, None, Some, is_none, Result, Ok, Err, OnOk, OnErr}
use Rattle.std.specs.Option.{option_map_or}
use Rattle.std.specs.Ordering.{nat_cmp}
use Rattle.std.specs.FinSet.{FinSet}
use Rattle.std.proofs.lemmas.Bool.Decides.{nat_tests}
use Rattle.can_frame.specs.Frame.{FrameFields}
use Rattle.can_bus.specs.declared.waiting.Waiting.{Waiting}
use Rattle.can_bus.specs.declared.transmission.Transmission.{Transmission}
use Rattle.can_bus.specs.Waiting.{winner}
use Rattle.can_bus.specs.Bus.{BusState, next_number, last_number, with_ranks}
use Rattle.can_bus.specs.Bus as channel
use Rattle.can_bus.proofs.RankLemmas.{with_ranks-is}
use Rattle.channel_errors.specs.Errors.{ErrorState, new_bus, is_off, is_disturbed, after_request, after_sent, after_disturbed, after_finish_of, after_finish, with_transmission, after_arbitration}
use Rattle.channel_errors.proofs.SoundStays.{new_bus_is_sound, SoundStays-errors}
use Rattle.bus_errors.specs.Inside.ErrorBus.{IsPaced}
use Rattle.bus_errors.proofs.Calls.{after_request-on}

-- from the beginning
pub paced-new_bus : (bit nodes : ℕ) (planned : FinSet nat_cmp) → 1 ≤ bit → IsPaced (new_bus bit planned nodes)
paced-new_bus bit nodes planned timed = record { sound = new_bus_is_sound bit nodes planned timed; begun_by_free = omega arith }

-- ---- a request
free_base : (b : Bool) (s : BusState) (node : ℕ) → (cond b (with_ranks s node) s).free ≡ s.free
free_base true s node = ap (λ (u : BusState). u.free) (with_ranks-is s node)
free_base false s node = refl

free_request : (s : BusState) (node : ℕ) (f : FrameFields) → (channel.after_request s node f).free ≡ s.free
free_request s node f = free_base (eqb (next_number s node) last_number) s node

-- leaves it paced
pub paced-request : (s : ErrorState) (node : ℕ) (f : FrameFields) → IsPaced s → IsPaced (after_request s node f)
paced-request s node f h = record {
  sound = SoundStays-errors.request s node f h.sound;
  begun_by_free =
      elim (is_off s node) as (λ b. let t : ErrorState = cond b s (record s { plain = channel.after_request s.plain node f }) in t.begun ≤ t.plain.free) [
        | true ↦ h.begun_by_free
        | false ↦ let same = free_request s.plain node f in let kept = h.begun_by_free in omega arith
      ];
}

-- ---- the end of a transmission
kept_finish : (wire : Option Transmission) (s : ErrorState) (now : ℕ) → s.begun ≤ s.plain.free
    → (after_finish_of wire s now).begun ≤ (after_finish_of wire s now).plain.free
kept_finish None s now h = h
kept_finish (Some t) s now h =
    elim (eqb t.end now) as (λ b. let u : ErrorState = cond b (cond (is_disturbed s) (after_disturbed s t.request) (after_sent s t.request)) s in u.begun ≤ u.plain.free) [
      | true ↦ elim (is_disturbed s) as (λ b. let u : ErrorState = cond b (after_disturbed s t.request) (after_sent s t.request) in u.begun ≤ u.plain.free) [
        | true ↦ h
        | false ↦ h
      ]
      | false ↦ h
    ]

-- leaves it paced
pub paced-finish : (s : ErrorState) (now : ℕ) → IsPaced s → IsPaced (after_finish s now)
paced-finish s now h = record {
  sound = SoundStays-errors.finish s now h.sound;
  begun_by_free = kept_finish s.plain.wire s now h.begun_by_free;
}

-- ---- arbitration
free_by : (b c : Bool) (free now : ℕ) (o : Option Waiting) (r : Waiting) → cond (b && c) o None ≡ Some r → c ≡ true
free_by true true free now o r h = refl
free_by true false free now o r h = absurd (cc)
free_by false c free now o r h = absurd (cc)

by_now : (free now : ℕ) → leb free now ≡ true → free ≤ now
by_now free now h = grind (arith, nat_tests)

-- where a request begins, the bus was free
pub free_at_begin : (s : BusState) (now : ℕ) (r : Waiting) → channel.winner_at s now ≡ Some r → s.free ≤ now
free_at_begin s now r wins = by_now s.free now (free_by (is_none s.wire) (leb s.free now) s.free now (winner s.waiting) r wins)

-- leaves it paced
pub paced-arbitration : (s : ErrorState) (now : ℕ) → IsPaced s → IsPaced (after_arbitration s now)
paced-arbitration s now h = record {
  sound = SoundStays-errors.arbitrate s now h.sound;
  begun_by_free =
      elim (channel.winner_at s.plain now) as (λ o. channel.winner_at s.plain now ≡ o
      → (option_map_or (with_transmission s now) o s).begun ≤ (option_map_or (with_transmission s now) o s).plain.free) [
        | None ↦ λ _. h.begun_by_free
        | Some r ↦ λ wins.
            let idle = free_at_begin s.plain now r wins in
            let kept = h.begun_by_free in
            let timed = h.sound.takes_time in
            omega arith
      ] refl;
}

-- ---- the calls of an `ErrorBus`
either_way : {A B : Type 0} (P : BusState → Type 0) (old after new : BusState) (r : Result A B) → OnOk r (new ≡ after) → OnErr r (new ≡ old) → P old → P after → P new
either_way P old after new (Ok x) ok err h g = subst P (sym ok) g
either_way P old after new (Err x) ok err h g = subst P (sym err) h

-- a request of a node that is not off, whether there is memory for it or not
pub paced-either : {A B : Type 0} (s : ErrorState) (node : ℕ) (f : FrameFields) (new : BusState) (r : Result A B) → OnOk r (new ≡ channel.after_request s.plain node f) → OnErr r (new ≡ s.plain)
    → is_off s node ≡ false → IsPaced s → IsPaced (record s { plain = new })
paced-either s node f new r ok err on h =
    either_way (λ t. IsPaced (record s { plain = t })) s.plain (channel.after_request s.plain node f) new r ok err h
    (subst IsPaced (after_request-on s node f on) (paced-request s node f h))
