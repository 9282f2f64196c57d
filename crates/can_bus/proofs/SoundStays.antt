-- No call changes the time of a bit, so a sound bus stays sound. No call changes the number of nodes.
use Rattle.std.proofs.Common.{◌≡◌, ℕ, ◌≤◌, true, false, cond, eqb, refl, sym, ap, subst}
use Rattle.std.specs.Prelude.{None, Some, is_some}
use Rattle.std.specs.Option.{option_map_or}
use Rattle.can_frame.specs.Frame.{FrameFields}
use Rattle.can_bus.specs.Bus.{time_on_wire, BusState, BitTakesTime, next_number, last_number, with_ranks, with_request, after_request, ended, after_finish, winner_at, with_transmission, after_arbitration, one_channel}
use Rattle.can_bus.specs.Laws.{SoundStays, NodesStay}
use Rattle.can_bus.proofs.RankLemmas.{with_ranks-is}

-- a request leaves the time of a bit
pub bit-after_request : (s : BusState) (node : ℕ) (f : FrameFields) → (after_request s node f).bit ≡ s.bit
bit-after_request s node f =
    elim (eqb (next_number s node) last_number) as (λ b. (with_request (cond b (with_ranks s node) s) node f).bit ≡ s.bit) [
      | true ↦ ap (λ (u : BusState). u.bit) (with_ranks-is s node)
      | false ↦ refl
    ]

-- the end of a frame leaves it
pub bit-after_finish : (s : BusState) (now : ℕ) → (after_finish s now).bit ≡ s.bit
bit-after_finish s now =
    elim (is_some (ended s now)) as (λ b. (cond b (record s { wire = None }) s).bit ≡ s.bit) [ true ↦ refl | false ↦ refl ]

-- arbitration leaves it
pub bit-after_arbitration : (s : BusState) (now : ℕ) → (after_arbitration s now).bit ≡ s.bit
bit-after_arbitration s now =
    elim (winner_at s now) as (λ o. (option_map_or (λ r. with_transmission s now (time_on_wire r.frame s.bit) r) o s).bit ≡ s.bit) [
      | None ↦ refl
      | Some r ↦ refl
    ]

takes_time : (s t : BusState) → t.bit ≡ s.bit → BitTakesTime s → BitTakesTime t
takes_time s t same h = subst (λ n. 1 ≤ n) (sym same) h

-- the laws of the bus
pub SoundStays-bus : SoundStays one_channel
SoundStays-bus = record {
  request = λ s node f. takes_time s (after_request s node f) (bit-after_request s node f);
  finish = λ s now. takes_time s (after_finish s now) (bit-after_finish s now);
  arbitrate = λ s now. takes_time s (after_arbitration s now) (bit-after_arbitration s now);
}

-- and it has its nodes, whatever comes
pub NodesStay-bus : NodesStay one_channel
NodesStay-bus = record { request = λ s node f. refl; finish = λ s now. refl; arbitrate = λ s now. refl }
