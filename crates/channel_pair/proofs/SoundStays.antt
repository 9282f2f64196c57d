-- A sound pair stays sound: no call changes the time of a bit, and a frame is held only where frames ended
-- on both channels.
use Rattle.std.proofs.Common.{◌≡◌, ℕ, true, false, cond, eqb, refl, sym, ◌∙◌}
use Rattle.std.specs.Prelude.{Option, None, Some, IfSome, is_some}
use Rattle.can_frame.specs.Frame.{FrameFields}
use Rattle.can_bus.specs.declared.bus.Ended.{Ended}
use Rattle.can_bus.specs.Bus as channel
use Rattle.can_bus.specs.Laws.{SoundStays, NodesStay}
use Rattle.can_bus.proofs.SoundStays.{SoundStays-bus, bit-after_request, bit-after_finish, bit-after_arbitration}
use Rattle.can_bus.proofs.Wire.{wire_empty-after_request, wire_empty-after_finish}
use Rattle.channel_pair.specs.Pair.{PairState, IsSoundPair, second_of_both, after_request, after_finish, after_arbitration, two_channels}

while_held : (held : Option Ended) (P Q : Type 0) → (P → Q) → IfSome held (λ _. P) → IfSome held (λ _. Q)
while_held None P Q step h = tt
while_held (Some e) P Q step h = step h

-- a request of a frame of channel 1
pub sound_request-one : (s : PairState) (node : ℕ) (f : FrameFields) → IsSoundPair s → IsSoundPair (record s { one = channel.after_request s.one node f })
sound_request-one s node f h = record {
  takes_time = SoundStays-bus.request s.one node f h.takes_time;
  same_bit = bit-after_request s.one node f ∙ h.same_bit;
  wires_empty = while_held s.held _ _ (λ w. (wire_empty-after_request s.one node f w.0, w.1)) h.wires_empty;
}

-- and of channel 2
pub sound_request-two : (s : PairState) (node : ℕ) (f : FrameFields) → IsSoundPair s → IsSoundPair (record s { two = channel.after_request s.two node f })
sound_request-two s node f h = record {
  takes_time = h.takes_time;
  same_bit = h.same_bit ∙ sym (bit-after_request s.two node f);
  wires_empty = while_held s.held _ _ (λ w. (w.0, wire_empty-after_request s.two node f w.1)) h.wires_empty;
}

sound_request : (s : PairState) (node : ℕ) (f : FrameFields) → IsSoundPair s → IsSoundPair (after_request s node f)
sound_request s node f h =
    elim (eqb f.can 2) as (λ b. IsSoundPair (cond b (record s { two = channel.after_request s.two node f }) (record s { one = channel.after_request s.one node f }))) [
      | true ↦ sound_request-two s node f h
      | false ↦ sound_request-one s node f h
    ]

where_both : (a b : Option Ended) (P Q : Type 0) → ((e : Ended) → a ≡ Some e → P) → ((e : Ended) → b ≡ Some e → Q)
    → IfSome (second_of_both a b) (λ _. P × Q)
where_both None b P Q one two = tt
where_both (Some e) None P Q one two = tt
where_both (Some e) (Some d) P Q one two = (one e refl, two d refl)

sound_finish : (s : PairState) (now : ℕ) → IsSoundPair s → IsSoundPair (after_finish s now)
sound_finish s now h =
    let one = channel.ended s.one now in
    let two = channel.ended s.two now in
    elim (is_some s.held) as (λ b. IsSoundPair (cond b (record s { held = None }) (record {
      one = channel.after_finish s.one now;
      two = channel.after_finish s.two now;
      held = second_of_both one two;
    }))) [
      | true ↦ record { takes_time = h.takes_time; same_bit = h.same_bit; wires_empty = tt }
      | false ↦ record {
        takes_time = SoundStays-bus.finish s.one now h.takes_time;
        same_bit = bit-after_finish s.one now ∙ h.same_bit ∙ sym (bit-after_finish s.two now);
        wires_empty = where_both one two _ _ (wire_empty-after_finish s.one now) (wire_empty-after_finish s.two now);
      }
    ]

sound_arbitration : (s : PairState) (now : ℕ) → IsSoundPair s → IsSoundPair (after_arbitration s now)
sound_arbitration s now h = record {
  takes_time = SoundStays-bus.arbitrate s.one now h.takes_time;
  same_bit = bit-after_arbitration s.one now ∙ h.same_bit ∙ sym (bit-after_arbitration s.two now);
  wires_empty = tt;
}

-- the law of the pair
pub SoundStays-pair : SoundStays two_channels
SoundStays-pair = record { request = sound_request; finish = sound_finish; arbitrate = sound_arbitration }

-- and it has its nodes, whatever comes
pub NodesStay-pair : NodesStay two_channels
NodesStay-pair = record { request = λ s node f. refl; finish = λ s now. refl; arbitrate = λ s now. refl }
