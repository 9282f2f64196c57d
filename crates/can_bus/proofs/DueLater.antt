-- After arbitration what is due next is later.
use Rattle.std.proofs.Common.{◌≡◌, ℕ, ◌*◌, ◌<◌, ◌≤◌, Bool, true, false, cond, ◌&&◌, eqb, leb, refl, sym, ap, subst, ◌∙◌, inl, inr, arith}
use Rattle.std.specs.Prelude.{Option, None, Some, MatchOption, IfSome, is_none, is_some, ⊤}
use Rattle.std.specs.Option.{option_map, option_map_or}
use Rattle.std.specs.Ordering.{nat_cmp}
use Rattle.std.specs.FinMap.{FinMap, empty, len, len-empty}
use Rattle.std.proofs.lemmas.Bool.Decides.{leb_tells, eqb_tells}
use Rattle.std.proofs.Math.Nat.{mul-le-mul}
use Rattle.can_frame.specs.Frame.{FrameFields}
use Rattle.frame_bits.specs.Length.{frame_length}
use Rattle.frame_bits.proofs.Lengths.{frame_length-is}
use Rattle.can_bus.specs.declared.waiting.Waiting.{Waiting}
use Rattle.can_bus.specs.declared.transmission.Transmission.{Transmission}
use Rattle.can_bus.specs.declared.bus.Ended.{Ended}
use Rattle.can_bus.specs.Waiting.{Requests, name_cmp, winner, IsWinner}
use Rattle.can_bus.specs.Bus.{time_on_wire, BusState, BitTakesTime, next_moment, moment_by, next_number, last_number, after_request, with_ranks, with_request, transmission_with_rank, after_finish, winner_at, with_transmission, after_arbitration, one_channel}
use Rattle.can_bus.specs.Laws.{Follows, DueLater, DueLaterFromNothing}
use Rattle.can_bus.specs.Laws.Follows.{nothing, request, finish}
use Rattle.can_bus.proofs.Winner.{winner_law}
use Rattle.can_bus.proofs.RankLemmas.{with_ranks-is}

-- nothing on the wire ends up to now
abbrev pub EndsLater : ℕ → Option Transmission → Type 0
EndsLater now wire = MatchOption wire ⊤ (λ t. now < t.end)

-- and a bit takes time
abbrev pub IsClear : ℕ → BusState → Type 0
IsClear now s = EndsLater now s.wire × BitTakesTime s

-- what is due is later
abbrev pub IsLater : ℕ → BusState → Type 0
IsLater now s = IfSome (next_moment s) (λ due. now < due)

-- the frame on the wire with its node
abbrev pub sent : Transmission → Ended
sent t = record { node = t.request.node; frame = t.request.frame }

-- ---- `finish` leaves the wire clear
module _ (waiting : Requests) (free : ℕ) (next : FinMap nat_cmp ℕ) (bit now : ℕ) where
  abbrev with_wire : Option Transmission → BusState
  with_wire wire = record { waiting = waiting; wire = wire; free = free; next = next; bit = bit }

  wire_clear-finish : (wire : Option Transmission) → 1 ≤ bit → IfSome (next_moment (with_wire wire)) (λ due. now ≤ due)
      → IsClear now (after_finish (with_wire wire) now)
  wire_clear-finish None timed due = (tt, timed)
  wire_clear-finish (Some t) timed due =
      let P : Bool → Type 0 = λ b. IsClear now (cond (is_some (cond b (Some (sent t)) None)) (with_wire None) (with_wire (Some t))) in
      elim (eqb_tells t.end now) [
        | inl ends ↦ subst P (sym ends.0) (tt, timed)
        | inr later ↦ subst P (sym later.0) (let apart = later.1 in omega arith, timed)
      ]

  wire_clear-again : (wire : Option Transmission) → IsClear now (with_wire wire) → IsClear now (after_finish (with_wire wire) now)
  wire_clear-again None h = h
  wire_clear-again (Some t) h =
      elim (eqb t.end now) as (λ b. IsClear now (cond (is_some (cond b (Some (sent t)) None)) (with_wire None) (with_wire (Some t)))) [
        | true ↦ (tt, h.1)
        | false ↦ h
      ]

  wire_clear-nothing : (wire : Option Transmission) → 1 ≤ bit → next_moment (with_wire wire) ≡ None → IsClear now (with_wire wire)
  wire_clear-nothing None timed due = (tt, timed)
  wire_clear-nothing (Some t) timed due = absurd (cc)

-- where nothing was due before, the wire is clear after `finish`
pub clear_finish : (s : BusState) (now : ℕ) → BitTakesTime s → IfSome (next_moment s) (λ due. now ≤ due) → IsClear now (after_finish s now)
clear_finish s now = wire_clear-finish s.waiting s.free s.next s.bit now s.wire

-- and it stays so with further calls
pub clear_again : (s : BusState) (now : ℕ) → IsClear now s → IsClear now (after_finish s now)
clear_again s now = wire_clear-again s.waiting s.free s.next s.bit now s.wire

-- where nothing is due at all, the wire is clear
pub clear_nothing : (s : BusState) (now : ℕ) → BitTakesTime s → next_moment s ≡ None → IsClear now s
clear_nothing s now = wire_clear-nothing s.waiting s.free s.next s.bit now s.wire

-- ---- a request leaves it clear
clear_rank : (s : BusState) (node now : ℕ) (wire : Option Transmission) → EndsLater now wire → EndsLater now (option_map (transmission_with_rank s node) wire)
clear_rank s node now None h = tt
clear_rank s node now (Some t) h = h

clear_ranks : (s : BusState) (node now : ℕ) → IsClear now s → IsClear now (with_ranks s node)
clear_ranks s node now h = subst (IsClear now) (sym (with_ranks-is s node)) (clear_rank s node now s.wire h.0, h.1)

-- a request leaves the wire clear
pub clear_request : (s : BusState) (node : ℕ) (f : FrameFields) (now : ℕ) → IsClear now s → IsClear now (after_request s node f)
clear_request s node f now h =
    elim (eqb (next_number s node) last_number) as (λ b. IsClear now (with_request (cond b (with_ranks s node) s) node f)) [
      | true ↦ clear_ranks s node now h
      | false ↦ h
    ]

clear_follows : (s : BusState) (now : ℕ) (t : BusState) → Follows one_channel now s t → IsClear now s → IsClear now t
clear_follows s now t nothing h = h
clear_follows s now t (request u node frame rest) h = clear_request u node frame now (clear_follows s now u rest h)
clear_follows s now t (finish u rest) h = clear_again u now (clear_follows s now u rest h)

-- ---- arbitration on a clear bus
frame_length-positive : (f : FrameFields) → 1 ≤ frame_length f
frame_length-positive f = let e = frame_length-is f in omega arith

-- a frame takes time, where a bit does
pub time_on_wire-positive : (f : FrameFields) (bit : ℕ) → 1 ≤ bit → 1 ≤ time_on_wire f bit
time_on_wire-positive f bit timed = let product : 1 * 1 ≤ frame_length f * bit = mul-le-mul (frame_length-positive f) timed in omega arith

-- a request that begins now and takes time ends later
pub later_with_transmission : (s : BusState) (now duration : ℕ) (r : Waiting) → 1 ≤ duration → IsLater now (with_transmission s now duration r)
later_with_transmission s now duration r takes = omega arith

none_waits : (waiting : Requests) (free now : ℕ) (o : Option Waiting) → MatchOption o (waiting ≡ empty) (IsWinner waiting) → o ≡ None
    → IfSome (moment_by None waiting free) (λ due. now < due)
none_waits waiting free now None none e =
    subst (λ n. IfSome (cond (eqb n 0) None (Some free)) (λ due. now < due)) (sym (ap len none ∙ len-empty name_cmp FrameFields)) tt
none_waits waiting free now (Some r) wins e = absurd (cc)

free_later : (waiting : Requests) (free now : ℕ) → now < free → IfSome (moment_by None waiting free) (λ due. now < due)
free_later waiting free now h =
    elim (eqb (len waiting) 0) as (λ b. IfSome (cond b None (Some free)) (λ due. now < due)) [ true ↦ tt | false ↦ h ]

later_by : (wire : Option Transmission) (waiting : Requests) (free now : ℕ) → EndsLater now wire
    → cond (is_none wire && leb free now) (winner waiting) None ≡ None → IfSome (moment_by wire waiting free) (λ due. now < due)
later_by (Some t) waiting free now h none = h
later_by None waiting free now h none =
    elim (leb_tells free now) [
      | inl reached ↦ none_waits waiting free now (winner waiting) (winner_law waiting) (sym (ap (λ b. cond b (winner waiting) None) reached.0) ∙ none)
      | inr busy ↦ free_later waiting free now busy.1
    ]

-- on a clear bus where no request begins, what is due is later
pub later_without_winner : (s : BusState) (now : ℕ) → EndsLater now s.wire → winner_at s now ≡ None → IsLater now s
later_without_winner s now = later_by s.wire s.waiting s.free now

-- on a clear bus what is due after arbitration is later
pub later_arbitration : (s : BusState) (now : ℕ) → IsClear now s → IsLater now (after_arbitration s now)
later_arbitration s now h =
    elim (winner_at s now) as (λ o. winner_at s now ≡ o → IsLater now (option_map_or (λ r. with_transmission s now (time_on_wire r.frame s.bit) r) o s)) [
      | None ↦ λ none. later_without_winner s now h.0 none
      | Some r ↦ λ _. later_with_transmission s now (time_on_wire r.frame s.bit) r (time_on_wire-positive r.frame s.bit h.1)
    ] refl

-- ---- the laws of the bus
pub DueLater-bus : DueLater one_channel
DueLater-bus s t now timed due follows =
    later_arbitration t now (clear_follows (after_finish s now) now t follows (clear_finish s now timed due))

-- the same where nothing is due
pub DueLaterFromNothing-bus : DueLaterFromNothing one_channel
DueLaterFromNothing-bus s t now timed due follows = later_arbitration t now (clear_follows s now t follows (clear_nothing s now timed due))
