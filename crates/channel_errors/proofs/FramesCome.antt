-- Frames come to the bus by requests alone, and what ends was on it: a disturbed frame that waits again was
-- on the wire.
use Rattle.std.proofs.Common.{◌≡◌, ℕ, Bool, true, false, not, cond, ◌⊎◌, eqb, refl, sym, subst, ◌∙◌, inl, inr}
use Rattle.std.specs.Prelude.{Option, None, Some, IfSome}
use Rattle.std.specs.Option.{option_map_or}
use Rattle.std.specs.FinMap.{get, insert, retain_keys, get-retain_keys}
use Rattle.can_frame.specs.Frame.{FrameFields}
use Rattle.can_bus.specs.declared.waiting.Waiting.{Waiting}
use Rattle.can_bus.specs.declared.transmission.Transmission.{Transmission}
use Rattle.can_bus.specs.declared.bus.Ended.{Ended}
use Rattle.can_bus.specs.Waiting.{RequestName, Requests, request_name}
use Rattle.can_bus.specs.Bus.{BusState}
use Rattle.can_bus.specs.Bus as channel
use Rattle.can_bus.specs.Laws.{FramesCome}
use Rattle.can_bus.proofs.Requests.{ties}
use Rattle.can_bus.proofs.Winner.{waits_winner}
use Rattle.can_bus.proofs.FramesCome.{HasFrame, IsOnWire, HasFrame-insert, carries-with_transmission, FramesCome-bus}
use Rattle.channel_errors.specs.Errors.{ErrorState, Carries, is_off, is_off_in, is_disturbed, counts_after_disturbed, next_duration, ended, after_request, after_sent, after_disturbed, after_finish, after_finish_of, with_transmission, after_arbitration, with_errors}

given_of : (P : FrameFields → Type 0) (b : Bool) (o : Option Ended) → IfSome o (λ e. P e.frame) → IfSome (cond b None o) (λ e. P e.frame)
given_of P true o h = tt
given_of P false o h = h

ended-carried : (s : ErrorState) (now : ℕ) → IfSome (ended s now) (λ e. Carries s e.frame)
ended-carried s now = given_of (Carries s) (is_disturbed s) (channel.ended s.plain now) (FramesCome-bus.ended s.plain now)

carries-after_request : (s : ErrorState) (node : ℕ) (frame other : FrameFields) → Carries (after_request s node frame) other → (other ≡ frame) ⊎ Carries s other
carries-after_request s node frame other =
    elim (is_off s node) as (λ b. Carries (cond b s (record s { plain = channel.after_request s.plain node frame })) other → (other ≡ frame) ⊎ Carries s other) [
      | true ↦ λ h. inr h
      | false ↦ FramesCome-bus.request s.plain node frame other
    ]

-- ---- a frame that was disturbed
left_in : (b : Bool) (frame : FrameFields) (o : Option FrameFields) → cond b o None ≡ Some frame → o ≡ Some frame
left_in true frame o e = e
left_in false frame o e = absurd (cc)

HasFrame-retain_keys : (w : Requests) (p : RequestName → Bool) (frame : FrameFields) → HasFrame (retain_keys w p) frame → HasFrame w frame
HasFrame-retain_keys w p frame h = (h.0, left_in (p h.0) frame (get w h.0) (sym (get-retain_keys w p h.0 (ties p h.0)) ∙ h.1))

-- what waits after it waited before, or is the frame
HasFrame-disturbed : (w : Requests) (b : Bool) (r : Waiting) (frame : FrameFields)
    → HasFrame (cond b (retain_keys w (λ name. not (eqb name.0 r.node))) (insert w (request_name r) r.frame)) frame → (frame ≡ r.frame) ⊎ HasFrame w frame
HasFrame-disturbed w true r frame h = inr (HasFrame-retain_keys w (λ name. not (eqb name.0 r.node)) frame h)
HasFrame-disturbed w false r frame h = HasFrame-insert w (request_name r) r.frame frame h

module _ (s : ErrorState) (t : Transmission) (is : s.plain.wire ≡ Some t) (frame : FrameFields) where
  on_wire : frame ≡ t.request.frame → Carries s frame
  on_wire same = inr (subst (λ w. IsOnWire w frame) (sym is) (sym same))

  carries-disturbed : Carries (after_disturbed s t.request) frame → Carries s frame
  carries-disturbed (inr none) = absurd none
  carries-disturbed (inl h) =
      elim (HasFrame-disturbed s.plain.waiting (is_off_in (counts_after_disturbed s.counts t.request.node) t.request.node) t.request frame h) [
        | inl same ↦ on_wire same
        | inr before ↦ inl before
      ]

  carries-sent : Carries (after_sent s t.request) frame → Carries s frame
  carries-sent (inr none) = absurd none
  carries-sent (inl h) = inl h

  carries-ended : (b : Bool) → Carries (cond b (after_disturbed s t.request) (after_sent s t.request)) frame → Carries s frame
  carries-ended true h = carries-disturbed h
  carries-ended false h = carries-sent h

-- ---- the calls
carries-finish_of : (wire : Option Transmission) (s : ErrorState) (now : ℕ) (frame : FrameFields) → s.plain.wire ≡ wire → Carries (after_finish_of wire s now) frame → Carries s frame
carries-finish_of None s now frame is h = h
carries-finish_of (Some t) s now frame is h =
    elim (eqb t.end now) as (λ b. Carries (cond b (cond (is_disturbed s) (after_disturbed s t.request) (after_sent s t.request)) s) frame → Carries s frame) [
      | true ↦ carries-ended s t is frame (is_disturbed s)
      | false ↦ λ h. h
    ] h

carries-after_finish : (s : ErrorState) (now : ℕ) (frame : FrameFields) → Carries (after_finish s now) frame → Carries s frame
carries-after_finish s now frame = carries-finish_of s.plain.wire s now frame refl

carries-after_arbitration : (s : ErrorState) (now : ℕ) (frame : FrameFields) → Carries (after_arbitration s now) frame → Carries s frame
carries-after_arbitration s now frame =
    elim (channel.winner_at s.plain now) as (λ o. channel.winner_at s.plain now ≡ o → Carries (option_map_or (with_transmission s now) o s) frame → Carries s frame) [
      | None ↦ λ _ h. h
      | Some r ↦ λ wins.
          carries-with_transmission s.plain now (next_duration s r.frame) r frame
          (waits_winner (channel.is_free s.plain now) s.plain.waiting r wins)
    ] refl

-- the law of the bus with planned errors
pub FramesCome-errors : FramesCome with_errors
FramesCome-errors = record {
  ended = ended-carried;
  request = carries-after_request;
  finish = carries-after_finish;
  arbitrate = carries-after_arbitration;
}
