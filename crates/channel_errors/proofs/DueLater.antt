-- After arbitration what is due next is later.
use Rattle.std.proofs.Common.{◌≡◌, ℕ, ◌≤◌, ◌+◌, Bool, true, false, cond, eqb, refl, sym, subst, inl, inr, arith}
use Rattle.std.specs.Prelude.{Option, None, Some, IfSome}
use Rattle.std.specs.Option.{option_map_or}
use Rattle.std.proofs.lemmas.Bool.Decides.{eqb_tells}
use Rattle.can_frame.specs.Frame.{FrameFields}
use Rattle.can_bus.specs.declared.waiting.Waiting.{Waiting}
use Rattle.can_bus.specs.declared.transmission.Transmission.{Transmission}
use Rattle.can_bus.specs.Bus.{time_on_wire, BusState, BitTakesTime}
use Rattle.can_bus.specs.Bus as channel
use Rattle.can_bus.specs.Laws.{Follows, DueLater, DueLaterFromNothing}
use Rattle.can_bus.specs.Laws.Follows.{nothing, request, finish}
use Rattle.can_bus.proofs.DueLater.{EndsLater, IsClear, IsLater, clear_nothing, clear_request, time_on_wire-positive, later_with_transmission, later_without_winner}
use Rattle.channel_errors.specs.Errors.{ErrorState, is_off, is_disturbed, is_planned, error_frame, next_duration, next_moment, after_request, after_sent, after_disturbed, after_finish, after_finish_of, with_transmission, after_arbitration, with_errors}

-- ---- `finish` leaves the wire clear
-- where it ends now
clear_ended : (s : ErrorState) (now : ℕ) (r : Waiting) → BitTakesTime s.plain → (b : Bool) → IsClear now (cond b (after_disturbed s r) (after_sent s r)).plain
clear_ended s now r timed true = (tt, timed)
clear_ended s now r timed false = (tt, timed)

-- what is on the wire ends now or later
abbrev EndsFromNow : ℕ → Option Transmission → Type 0
EndsFromNow now wire = IfSome wire (λ t. now ≤ t.end)

from_now : (wire : Option Transmission) (s : BusState) (now : ℕ) → s.wire ≡ wire → IfSome (channel.next_moment s) (λ due. now ≤ due) → EndsFromNow now wire
from_now None s now is due = tt
from_now (Some t) s now is due = subst (λ w. IfSome (channel.moment_by w s.waiting s.free) (λ due. now ≤ due)) is due

clear_finish_of : (wire : Option Transmission) (s : ErrorState) (now : ℕ) → s.plain.wire ≡ wire → BitTakesTime s.plain → EndsFromNow now wire → IsClear now (after_finish_of wire s now).plain
clear_finish_of None s now is timed due = (subst (EndsLater now) (sym is) tt, timed)
clear_finish_of (Some t) s now is timed due =
    elim (eqb_tells t.end now) [
      | inl ends ↦ subst (λ b. IsClear now (cond b (cond (is_disturbed s) (after_disturbed s t.request) (after_sent s t.request)) s).plain) (sym ends.0) (clear_ended s now t.request timed (is_disturbed s))
      | inr apart ↦
          subst (λ b. IsClear now (cond b (cond (is_disturbed s) (after_disturbed s t.request) (after_sent s t.request)) s).plain) (sym apart.0)
          (subst (EndsLater now) (sym is) (let other = apart.1 in omega arith), timed)
    ]

clear_finish : (s : ErrorState) (now : ℕ) → BitTakesTime s.plain → IfSome (next_moment s) (λ due. now ≤ due) → IsClear now (after_finish s now).plain
clear_finish s now timed due = clear_finish_of s.plain.wire s now refl timed (from_now s.plain.wire s.plain now refl due)

-- further calls leave it so
clear_again_of : (wire : Option Transmission) (s : ErrorState) (now : ℕ) → IsClear now s.plain → IsClear now (after_finish_of wire s now).plain
clear_again_of None s now h = h
clear_again_of (Some t) s now h =
    elim (eqb t.end now) as (λ b. IsClear now (cond b (cond (is_disturbed s) (after_disturbed s t.request) (after_sent s t.request)) s).plain) [
      | true ↦ clear_ended s now t.request h.1 (is_disturbed s)
      | false ↦ h
    ]

clear_request-errors : (s : ErrorState) (node : ℕ) (f : FrameFields) (now : ℕ) → IsClear now s.plain → IsClear now (after_request s node f).plain
clear_request-errors s node f now h =
    elim (is_off s node) as (λ b. IsClear now (cond b s (record s { plain = channel.after_request s.plain node f })).plain) [
      | true ↦ h
      | false ↦ clear_request s.plain node f now h
    ]

clear_follows : (s : ErrorState) (now : ℕ) (t : ErrorState) → Follows with_errors now s t → IsClear now s.plain → IsClear now t.plain
clear_follows s now t nothing h = h
clear_follows s now t (request u node frame rest) h = clear_request-errors u node frame now (clear_follows s now u rest h)
clear_follows s now t (finish u rest) h = clear_again_of u.plain.wire u now (clear_follows s now u rest h)

-- ---- arbitration on a clear bus
duration-positive : (s : ErrorState) (f : FrameFields) → BitTakesTime s.plain → 1 ≤ next_duration s f
duration-positive s f timed =
    let base = time_on_wire-positive f s.plain.bit timed in
    elim (is_planned s.planned (s.begun + 1)) as (λ b. 1 ≤ time_on_wire f s.plain.bit + cond b (error_frame s.plain.bit) 0) [
      | true ↦ omega arith
      | false ↦ omega arith
    ]

later_arbitration : (s : ErrorState) (now : ℕ) → IsClear now s.plain → IsLater now (after_arbitration s now).plain
later_arbitration s now h =
    elim (channel.winner_at s.plain now) as (λ o. channel.winner_at s.plain now ≡ o → IsLater now (option_map_or (with_transmission s now) o s).plain) [
      | None ↦ λ none. later_without_winner s.plain now h.0 none
      | Some r ↦ λ _. later_with_transmission s.plain now (next_duration s r.frame) r (duration-positive s r.frame h.1)
    ] refl

-- ---- the laws of the bus with planned errors
pub DueLater-errors : DueLater with_errors
DueLater-errors s t now sound due follows =
    later_arbitration t now (clear_follows (after_finish s now) now t follows (clear_finish s now sound.takes_time due))

-- the same where nothing is due
pub DueLaterFromNothing-errors : DueLaterFromNothing with_errors
DueLaterFromNothing-errors s t now sound due follows =
    later_arbitration t now (clear_follows s now t follows (clear_nothing s.plain now sound.takes_time due))
