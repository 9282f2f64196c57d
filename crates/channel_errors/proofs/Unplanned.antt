-- With no planned number each call is the plain bus's.
use Rattle.std.proofs.Common.{◌≡◌, ℕ, ◌+◌, true, false, cond, eqb, refl, ap, ◌∙◌, arith}
use Rattle.std.specs.Prelude.{Option, None, Some, is_some}
use Rattle.std.specs.Option.{option_map_or}
use Rattle.std.specs.Ordering.{nat_cmp}
use Rattle.std.specs.FinSet.{empty, contains-empty}
use Rattle.can_bus.specs.declared.bus.Ended.{Ended}
use Rattle.can_bus.specs.declared.transmission.Transmission.{Transmission}
use Rattle.can_bus.specs.Bus.{time_on_wire, BusState}
use Rattle.can_bus.specs.Bus as channel
use Rattle.channel_errors.specs.Errors.{ErrorState, is_planned, error_frame, after_sent, after_disturbed, after_finish_of, with_transmission, after_arbitration}
use Rattle.channel_errors.specs.Laws.{unplanned, ActsAsPlain}
use Rattle.channel_errors.proofs.Counts.{is_off-zero, sent-zero}

-- no number is planned
none_planned : (number : ℕ) → is_planned empty number ≡ false
none_planned number = contains-empty nat_cmp number

module _ (s : BusState) (begun nodes : ℕ) where
  finish_of : (wire : Option Transmission) (now : ℕ) → let u : BusState = record s { wire = wire } in after_finish_of wire (unplanned u begun nodes) now ≡ unplanned (channel.after_finish u now) begun nodes
  finish_of None now = refl
  finish_of (Some t) now =
      let u : BusState = record s { wire = Some t } in
      let v : ErrorState = unplanned u begun nodes in
      ap (λ d. cond (eqb t.end now) (cond d (after_disturbed v t.request) (after_sent v t.request)) v) (none_planned begun)
      ∙ elim (eqb t.end now) as (λ b. cond b (after_sent v t.request) v
      ≡ unplanned (cond (is_some (cond {A = Option Ended} b (Some (record { node = t.request.node; frame = t.request.frame })) None)) (record u { wire = None }) u) begun nodes) [
        | true ↦ ap (λ counts. record (unplanned (record u { wire = None }) begun nodes) { counts = counts }) (sent-zero nodes t.request.node)
        | false ↦ refl
      ]

  arbitration : (now : ℕ) → after_arbitration (unplanned s begun nodes) now ≡ unplanned (channel.after_arbitration s now) (cond (is_some (channel.winner_at s now)) (begun + 1) begun) nodes
  arbitration now =
      elim (channel.winner_at s now) as (λ o. option_map_or (with_transmission (unplanned s begun nodes) now) o (unplanned s begun nodes)
      ≡ unplanned (option_map_or (λ r. channel.with_transmission s now (time_on_wire r.frame s.bit) r) o s) (cond (is_some o) (begun + 1) begun) nodes) [
        | None ↦ refl
        | Some r ↦
            let same : time_on_wire r.frame s.bit + 0 ≡ time_on_wire r.frame s.bit = omega arith in
            ap (λ d. unplanned (channel.with_transmission s now (time_on_wire r.frame s.bit + cond d (error_frame s.bit) 0) r) (begun + 1) nodes) (none_planned (begun + 1))
            ∙ ap (λ duration. unplanned (channel.with_transmission s now duration r) (begun + 1) nodes) same
      ]

  -- each call
  pub acts_as_plain : ActsAsPlain s begun nodes
  acts_as_plain = record {
    request = λ node f. ap (λ b. cond b (unplanned s begun nodes) (unplanned (channel.after_request s node f) begun nodes)) (is_off-zero nodes node);
    next_moment = refl;
    ended = λ now. ap (λ b. cond b None (channel.ended s now)) (none_planned begun);
    finish = finish_of s.wire;
    arbitrate = arbitration;
  }
