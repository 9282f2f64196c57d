-- A node that is off stays off.
use Rattle.std.proofs.Common.{◌≡◌, ℕ, true, false, cond, eqb, ◌∙◌}
use Rattle.std.specs.Prelude.{Option, None, Some, IfSome}
use Rattle.std.specs.Option.{option_map_or}
use Rattle.can_bus.specs.declared.transmission.Transmission.{Transmission}
use Rattle.can_bus.specs.Bus as channel
use Rattle.channel_errors.specs.Errors.{ErrorState, IsSoundErrors, is_off, is_disturbed, after_sent, after_disturbed, after_finish_of, with_transmission, after_arbitration}
use Rattle.channel_errors.specs.Laws.{OffStays}
use Rattle.channel_errors.proofs.Counts.{off_after_disturbed, is_off_other, off_on_apart}
use Rattle.channel_errors.proofs.RequestsCommute.{is_off-after_request}

finish_of : (wire : Option Transmission) (s : ErrorState) (node now : ℕ) → IfSome wire (λ t. is_off s t.request.node ≡ false) → is_off s node ≡ true
    → is_off (after_finish_of wire s now) node ≡ true
finish_of None s node now on off = off
finish_of (Some t) s node now on off =
    elim (eqb t.end now) as (λ b. is_off (cond b (cond (is_disturbed s) (after_disturbed s t.request) (after_sent s t.request)) s) node ≡ true) [
      | true ↦ elim (is_disturbed s) as (λ b. is_off (cond b (after_disturbed s t.request) (after_sent s t.request)) node ≡ true) [
        | true ↦ off_after_disturbed s.counts t.request.node node off
        | false ↦ is_off_other s.counts t.request.node node _ (off_on_apart s.counts node t.request.node off on) ∙ off
      ]
      | false ↦ off
    ]

arbitration : (s : ErrorState) (node now : ℕ) → is_off s node ≡ true → is_off (after_arbitration s now) node ≡ true
arbitration s node now off =
    elim (channel.winner_at s.plain now) as (λ o. is_off (option_map_or (with_transmission s now) o s) node ≡ true) [ None ↦ off | Some r ↦ off ]

-- whatever the call
pub off_stays : (s : ErrorState) (node : ℕ) → IsSoundErrors s → is_off s node ≡ true → OffStays s node
off_stays s node h off = record {
  request = λ n f. is_off-after_request s n f node ∙ off;
  finish = λ now. finish_of s.plain.wire s node now h.none_on_wire off;
  arbitrate = λ now. arbitration s node now off;
}
