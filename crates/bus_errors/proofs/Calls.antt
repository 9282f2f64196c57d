-- The states that the calls of an `ErrorBus` leave, from what its parts are then.
use Rattle.std.proofs.Common.{◌≡◌, ℕ, ◌+◌, ◌*◌, Bool, true, false, not, cond, List, eqb, refl, sym, ap, ◌∙◌, inl, inr, arith}
use Rattle.std.specs.Prelude.{Option, None, Some, is_some}
use Rattle.std.specs.Option.{option_map_or}
use Rattle.std.specs.FinMap.{get, insert, retain_keys, get-insert, get-retain_keys, same_map}
use Rattle.std.proofs.lemmas.Bool.Decides.{nat_tests, eqb_tells}
use Rattle.can_frame.specs.Frame.{FrameFields}
use Rattle.can_bus.specs.declared.waiting.Waiting.{Waiting}
use Rattle.can_bus.specs.declared.transmission.Transmission.{Transmission}
use Rattle.can_bus.specs.Bus.{time_on_wire, BusState}
use Rattle.can_bus.specs.Waiting.{RequestName, Requests, request_name}
use Rattle.can_bus.specs.Bus as channel
use Rattle.can_bus.proofs.Requests.{name_cmp_total, name_cmp-IsAntisymmetric, ties}
use Rattle.bus_heap.specs.Retransmission.{after_longer_arbitration, waiting_again, with_wire_waiting, without_waiting_of}
use Rattle.channel_errors.specs.Errors.{ErrorState, is_off, is_off_in, is_planned, is_disturbed, counts_after_disturbed, after_request, after_sent, after_disturbed, after_finish_of, after_finish, error_frame, with_transmission, after_arbitration}
use Rattle.channel_errors.proofs.Waits.{other_name}

-- ---- a request
-- of a node that is not off
pub after_request-on : (s : ErrorState) (node : ℕ) (f : FrameFields) → is_off s node ≡ false → after_request s node f ≡ record s { plain = channel.after_request s.plain node f }
after_request-on s node f on = ap (λ b. cond b s (record s { plain = channel.after_request s.plain node f })) on

-- ---- the end of a transmission
ends_now : (m n : ℕ) → m ≡ n → eqb m n ≡ true
ends_now m n e = grind (arith, nat_tests)

-- dropped with the others of its node, a request leaves the same as if it had not waited
dropped_too : (w : Requests) (r : Waiting) → retain_keys (insert w (request_name r) r.frame) (λ name. not (eqb name.0 r.node)) ≡ retain_keys w (λ name. not (eqb name.0 r.node))
dropped_too w r =
    let p : RequestName → Bool = λ name. not (eqb name.0 r.node) in
    same_map name_cmp_total name_cmp-IsAntisymmetric _ _
    (λ q. get-retain_keys (insert w (request_name r) r.frame) p q (ties p q)
    ∙ elim (eqb_tells q.0 r.node) [
      | inl own ↦
          ap (λ b. cond (not b) (get (insert w (request_name r) r.frame) q) None) own.0
          ∙ sym (ap (λ b. cond (not b) (get w q) None) own.0)
      | inr other ↦
          ap (λ o. cond (p q) o None) (get-insert name_cmp_total w (request_name r) r.frame q
          ∙ ap (λ b. cond b (Some r.frame) (get w q)) (other_name q (request_name r) other.1))
    ]
    ∙ sym (get-retain_keys w p q (ties p q)))

-- what a disturbed transmission leaves behind, from what the plain bus and the counts are then
module _ (s : ErrorState) (now : ℕ) (t : Transmission) (carried : s.plain.wire ≡ Some t) (ends : t.end ≡ now) (plain : BusState) (counts : List ℕ) where
  finish_disturbed : is_disturbed s ≡ true → after_finish s now ≡ after_disturbed s t.request
  finish_disturbed planned =
      ap (λ w. after_finish_of w s now) carried
      ∙ ap (λ b. cond b (cond (is_disturbed s) (after_disturbed s t.request) (after_sent s t.request)) s) (ends_now t.end now ends)
      ∙ ap (λ b. cond b (after_disturbed s t.request) (after_sent s t.request)) planned

  again : plain ≡ with_wire_waiting s.plain → plain ≡ waiting_again s.plain t.request
  again waits = waits ∙ ap (λ w. option_map_or (λ (u : Transmission). waiting_again s.plain u.request) w s.plain) carried

  -- where it ends disturbed, and its node is not off then
  pub after_finish-again : is_disturbed s ≡ true → plain ≡ with_wire_waiting s.plain → counts ≡ counts_after_disturbed s.counts t.request.node
      → is_off_in counts t.request.node ≡ false
      → ◌≡◌ {A = ErrorState} (record s { plain = plain; counts = counts }) (after_finish s now)
  after_finish-again planned waits counted on =
      let r : Waiting = t.request in
      let after : List ℕ = counts_after_disturbed s.counts r.node in
      (λ i. record s { plain = again waits i; counts = counted i })
      ∙ sym (finish_disturbed planned
      ∙ ap (λ b. record s {
        plain = record s.plain { wire = None; waiting = cond b (retain_keys s.plain.waiting (λ name. not (eqb name.0 r.node))) (insert s.plain.waiting (request_name r) r.frame) };
        counts = after;
      }) (ap (λ c. is_off_in c r.node) (sym counted) ∙ on))

  -- and where it is
  pub after_finish-off : (left : BusState) → is_disturbed s ≡ true → plain ≡ with_wire_waiting s.plain → counts ≡ counts_after_disturbed s.counts t.request.node
      → is_off_in counts t.request.node ≡ true → left ≡ without_waiting_of plain t.request.node
      → ◌≡◌ {A = ErrorState} (record s { plain = left; counts = counts }) (after_finish s now)
  after_finish-off left planned waits counted off dropped =
      let r : Waiting = t.request in
      let after : List ℕ = counts_after_disturbed s.counts r.node in
      let gone : left ≡ record s.plain { wire = None; waiting = retain_keys s.plain.waiting (λ name. not (eqb name.0 r.node)) } =
      dropped ∙ ap (λ u. without_waiting_of u r.node) (again waits)
      ∙ ap (λ w. record s.plain { wire = None; waiting = w }) (dropped_too s.plain.waiting r) in
      (λ i. record s { plain = gone i; counts = counted i })
      ∙ sym (finish_disturbed planned
      ∙ ap (λ b. record s {
        plain = record s.plain { wire = None; waiting = cond b (retain_keys s.plain.waiting (λ name. not (eqb name.0 r.node))) (insert s.plain.waiting (request_name r) r.frame) };
        counts = after;
      }) (ap (λ c. is_off_in c r.node) (sym counted) ∙ off))

-- ---- arbitration
-- the bits of an error frame, where the transmission of this number is disturbed
abbrev pub bits_more : Bool → ℕ
bits_more planned = cond planned 14 0

more_time : (planned : Bool) (time bit : ℕ) → time + bits_more planned * bit ≡ time + cond planned (error_frame bit) 0
more_time true time bit = refl
more_time false time bit = omega arith

-- the value that there is
pub some_of : {A : Type 0} (o : Option A) → is_some o ≡ true → (x : A) × (o ≡ Some x)
some_of None h = absurd (cc)
some_of (Some x) h = (x, refl)

module _ (s : ErrorState) (now begun : ℕ) (plain : BusState) (left : plain ≡ after_longer_arbitration s.plain now (bits_more (is_planned s.planned (s.begun + 1)))) where
  -- the winner begins
  pub after_arbitration-begins : is_some (channel.winner_at s.plain now) ≡ true → begun ≡ s.begun + 1
      → ◌≡◌ {A = ErrorState} (record s { plain = plain; begun = begun }) (after_arbitration s now)
  after_arbitration-begins some next =
      let planned : Bool = is_planned s.planned (s.begun + 1) in
      let won = some_of (channel.winner_at s.plain now) some in
      let r : Waiting = won.0 in
      let wins : channel.winner_at s.plain now ≡ Some r = won.1 in
      let plain_is : plain ≡ channel.with_transmission s.plain now (time_on_wire r.frame s.plain.bit + cond planned (error_frame s.plain.bit) 0) r =
      left
      ∙ ap (λ o. option_map_or (λ u. channel.with_transmission s.plain now (time_on_wire u.frame s.plain.bit + bits_more planned * s.plain.bit) u) o s.plain) wins
      ∙ ap (λ time. channel.with_transmission s.plain now time r) (more_time planned (time_on_wire r.frame s.plain.bit) s.plain.bit) in
      (λ i. record s { plain = plain_is i; begun = next i })
      ∙ sym (ap (λ o. option_map_or (with_transmission s now) o s) wins)
