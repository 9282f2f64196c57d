-- After arbitration what is due next is later, as it is on each channel.
use Rattle.std.proofs.Common.{◌≡◌, ℕ, ◌<◌, ◌≤◌, true, false, cond, eqb, refl, sym, subst, arith}
use Rattle.std.specs.Prelude.{Option, None, Some, IfSome, is_some}
use Rattle.can_frame.specs.Frame.{FrameFields}
use Rattle.can_bus.specs.Bus.{BusState, BitTakesTime}
use Rattle.can_bus.specs.Bus as channel
use Rattle.can_bus.specs.Laws.{Follows, DueLater, DueLaterFromNothing}
use Rattle.can_bus.specs.Laws.Follows.{nothing, request, finish}
use Rattle.can_bus.proofs.DueLater.{EndsLater, IsClear, clear_finish, clear_again, clear_nothing, clear_request, later_arbitration}
use Rattle.channel_pair.specs.Pair.{PairState, IsSoundPair, lesser_moment, second_of_both, next_moment, after_request, after_finish, after_arbitration, two_channels}

-- ---- the lesser of two moments
due_both : (a b : Option ℕ) (now : ℕ) → IfSome (lesser_moment a b) (λ due. now ≤ due) → IfSome a (λ due. now ≤ due) × IfSome b (λ due. now ≤ due)
due_both None None now h = (tt, tt)
due_both None (Some n) now h = (tt, h)
due_both (Some m) None now h = (h, tt)
due_both (Some m) (Some n) now h = (omega arith, omega arith)

later_both : (a b : Option ℕ) (now : ℕ) → IfSome a (λ due. now < due) → IfSome b (λ due. now < due) → IfSome (lesser_moment a b) (λ due. now < due)
later_both None b now h g = g
later_both (Some m) None now h g = h
later_both (Some m) (Some n) now h g = omega arith

none_both : (a b : Option ℕ) → lesser_moment a b ≡ None → (a ≡ None) × (b ≡ None)
none_both None b h = (refl, h)
none_both (Some m) None h = absurd (cc)
none_both (Some m) (Some n) h = absurd (cc)

-- ---- both wires are clear
-- nothing on either wire ends up to now, and bits take time
abbrev AreClear : ℕ → PairState → Type 0
AreClear now s = IsClear now s.one × IsClear now s.two

takes_time-two : (s : PairState) → IsSoundPair s → BitTakesTime s.two
takes_time-two s h = subst (λ n. 1 ≤ n) h.same_bit h.takes_time

-- an empty wire is clear
clear_empty : (s : BusState) (now : ℕ) → BitTakesTime s → s.wire ≡ None → IsClear now s
clear_empty s now timed empty = (subst (EndsLater now) (sym empty) tt, timed)

clear_finish-pair : (s : PairState) (now : ℕ) → IsSoundPair s → IfSome (next_moment s) (λ due. now ≤ due) → AreClear now (after_finish s now)
clear_finish-pair s now h due =
    let dues = due_both (channel.next_moment s.one) (channel.next_moment s.two) now due in
    elim (s.held) as (λ o. IfSome o (λ _. (s.one.wire ≡ None) × (s.two.wire ≡ None)) → AreClear now (cond (is_some o) (record s { held = None }) (record {
      one = channel.after_finish s.one now;
      two = channel.after_finish s.two now;
      held = second_of_both (channel.ended s.one now) (channel.ended s.two now);
    }))) [
      | None ↦ λ _. (clear_finish s.one now h.takes_time dues.0, clear_finish s.two now (takes_time-two s h) dues.1)
      | Some e ↦ λ empty. (clear_empty s.one now h.takes_time empty.0, clear_empty s.two now (takes_time-two s h) empty.1)
    ] h.wires_empty

clear_again-pair : (s : PairState) (now : ℕ) → AreClear now s → AreClear now (after_finish s now)
clear_again-pair s now h =
    elim (is_some s.held) as (λ b. AreClear now (cond b (record s { held = None }) (record {
      one = channel.after_finish s.one now;
      two = channel.after_finish s.two now;
      held = second_of_both (channel.ended s.one now) (channel.ended s.two now);
    }))) [
      | true ↦ h
      | false ↦ (clear_again s.one now h.0, clear_again s.two now h.1)
    ]

clear_request-pair : (s : PairState) (node : ℕ) (f : FrameFields) (now : ℕ) → AreClear now s → AreClear now (after_request s node f)
clear_request-pair s node f now h =
    elim (eqb f.can 2) as (λ b. AreClear now (cond b (record s { two = channel.after_request s.two node f }) (record s { one = channel.after_request s.one node f }))) [
      | true ↦ (h.0, clear_request s.two node f now h.1)
      | false ↦ (clear_request s.one node f now h.0, h.1)
    ]

clear_follows : (s : PairState) (now : ℕ) (t : PairState) → Follows two_channels now s t → AreClear now s → AreClear now t
clear_follows s now t nothing h = h
clear_follows s now t (request u node frame rest) h = clear_request-pair u node frame now (clear_follows s now u rest h)
clear_follows s now t (finish u rest) h = clear_again-pair u now (clear_follows s now u rest h)

later-pair : (s : PairState) (now : ℕ) → AreClear now s → IfSome (next_moment (after_arbitration s now)) (λ due. now < due)
later-pair s now h =
    later_both (channel.next_moment (channel.after_arbitration s.one now)) (channel.next_moment (channel.after_arbitration s.two now)) now
    (later_arbitration s.one now h.0) (later_arbitration s.two now h.1)

-- ---- the laws of the pair
pub DueLater-pair : DueLater two_channels
DueLater-pair s t now sound due follows =
    later-pair t now (clear_follows (after_finish s now) now t follows (clear_finish-pair s now sound due))

-- the same where nothing is due
pub DueLaterFromNothing-pair : DueLaterFromNothing two_channels
DueLaterFromNothing-pair s t now sound due follows =
    let none = none_both (channel.next_moment s.one) (channel.next_moment s.two) due in
    later-pair t now (clear_follows s now t follows (clear_nothing s.one now sound.takes_time none.0, clear_nothing s.two now (takes_time-two s sound) none.1))
