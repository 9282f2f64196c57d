-- Frames come to the pair by requests alone, and what ends was on it: a frame that is held was on the wire.
use Rattle.std.proofs.Common.{◌≡◌, ℕ, true, false, cond, ◌⊎◌, eqb, refl, subst, inl, inr}
use Rattle.std.specs.Prelude.{Option, None, Some, MatchOption, IfSome, is_some}
use Rattle.std.specs.Option.{option_or}
use Rattle.can_frame.specs.Frame.{FrameFields}
use Rattle.can_bus.specs.declared.bus.Ended.{Ended}
use Rattle.can_bus.specs.Bus.{BusState}
use Rattle.can_bus.specs.Bus as channel
use Rattle.can_bus.specs.Laws.{FramesCome}
use Rattle.can_bus.proofs.FramesCome.{FramesCome-bus}
use Rattle.channel_pair.specs.Pair.{PairState, Carries, second_of_both, ended, after_request, after_finish, after_arbitration, two_channels}

-- the frame that is held, where one is
abbrev IsHeld : Option Ended → FrameFields → Type 0
IsHeld held frame = MatchOption held ⊥ (λ e. e.frame ≡ frame)

-- ---- what ends
-- of the held frame and of those that end on the channels, one is given
given_of : (P : FrameFields → Type 0) (a b : Option Ended) → IfSome a (λ e. P e.frame) → IfSome b (λ e. P e.frame) → IfSome (option_or a b) (λ e. P e.frame)
given_of P None b h g = g
given_of P (Some e) b h g = h

is_held : (P : FrameFields → Type 0) (held : Option Ended) → ((frame : FrameFields) → IsHeld held frame → P frame) → IfSome held (λ e. P e.frame)
is_held P None h = tt
is_held P (Some e) h = h e.frame refl

weaker : (P Q : FrameFields → Type 0) (o : Option Ended) → ((frame : FrameFields) → P frame → Q frame) → IfSome o (λ e. P e.frame) → IfSome o (λ e. Q e.frame)
weaker P Q None step h = tt
weaker P Q (Some e) step h = step e.frame h

ended-carried : (s : PairState) (now : ℕ) → IfSome (ended s now) (λ e. Carries s e.frame)
ended-carried s now =
    let P : FrameFields → Type 0 = Carries s in
    let one = channel.ended s.one now in
    let two = channel.ended s.two now in
    given_of P s.held (option_or one two) (is_held P s.held (λ frame held. inl held))
    (given_of P one two
    (weaker (channel.Carries s.one) P one (λ frame on. inr (inl on)) (FramesCome-bus.ended s.one now))
    (weaker (channel.Carries s.two) P two (λ frame on. inr (inr on)) (FramesCome-bus.ended s.two now)))

-- ---- the calls
-- where other channels have what came or was on these, so has the pair of them
by_channels : (s : PairState) (one two : BusState) (Came : Type 0) (frame : FrameFields)
    → (channel.Carries one frame → Came ⊎ channel.Carries s.one frame)
    → (channel.Carries two frame → Came ⊎ channel.Carries s.two frame)
    → Carries (record { one = one; two = two; held = s.held }) frame → Came ⊎ Carries s frame
by_channels s one two Came frame on_one on_two (inl held) = inr (inl held)
by_channels s one two Came frame on_one on_two (inr (inl h)) = elim (on_one h) [ inl came ↦ inl came | inr before ↦ inr (inr (inl before)) ]
by_channels s one two Came frame on_one on_two (inr (inr h)) = elim (on_two h) [ inl came ↦ inl came | inr before ↦ inr (inr (inr before)) ]

carries-after_request : (s : PairState) (node : ℕ) (frame other : FrameFields) → Carries (after_request s node frame) other → (other ≡ frame) ⊎ Carries s other
carries-after_request s node frame other =
    elim (eqb frame.can 2) as (λ b. Carries (cond b (record s { two = channel.after_request s.two node frame }) (record s { one = channel.after_request s.one node frame })) other
    → (other ≡ frame) ⊎ Carries s other) [
      | true ↦ by_channels s s.one (channel.after_request s.two node frame) (other ≡ frame) other (λ h. inr h) (FramesCome-bus.request s.two node frame other)
      | false ↦ by_channels s (channel.after_request s.one node frame) s.two (other ≡ frame) other (FramesCome-bus.request s.one node frame other) (λ h. inr h)
    ]

-- the second of two frames that end was on its channel
second_carried : (P : FrameFields → Type 0) (a b : Option Ended) (frame : FrameFields) → IfSome b (λ e. P e.frame) → IsHeld (second_of_both a b) frame → P frame
second_carried P None b frame h held = absurd held
second_carried P (Some d) None frame h held = absurd held
second_carried P (Some d) (Some e) frame h same = subst P same h

carries-after_finish : (s : PairState) (now : ℕ) (frame : FrameFields) → Carries (after_finish s now) frame → Carries s frame
carries-after_finish s now frame =
    let rest : PairState = record {
      one = channel.after_finish s.one now;
      two = channel.after_finish s.two now;
      held = second_of_both (channel.ended s.one now) (channel.ended s.two now);
    } in
    elim (is_some s.held) as (λ b. Carries (cond b (record s { held = None }) rest) frame → Carries s frame) [
      | true ↦ λ h. elim h [ inl none ↦ absurd none | inr on ↦ inr on ]
      | false ↦ λ h. elim h [
        | inl held ↦ inr (inr (second_carried (channel.Carries s.two) (channel.ended s.one now) (channel.ended s.two now) frame (FramesCome-bus.ended s.two now) held))
        | inr (inl on) ↦ inr (inl (FramesCome-bus.finish s.one now frame on))
        | inr (inr on) ↦ inr (inr (FramesCome-bus.finish s.two now frame on))
      ]
    ]

carries-after_arbitration : (s : PairState) (now : ℕ) (frame : FrameFields) → Carries (after_arbitration s now) frame → Carries s frame
carries-after_arbitration s now frame (inl none) = absurd none
carries-after_arbitration s now frame (inr (inl on)) = inr (inl (FramesCome-bus.arbitrate s.one now frame on))
carries-after_arbitration s now frame (inr (inr on)) = inr (inr (FramesCome-bus.arbitrate s.two now frame on))

-- the law of the pair
pub FramesCome-pair : FramesCome two_channels
FramesCome-pair = record {
  ended = ended-carried;
  request = carries-after_request;
  finish = carries-after_finish;
  arbitrate = carries-after_arbitration;
}
