-- What ends disturbed waits again, unless its node goes off.
use Rattle.std.proofs.Common.{◌≡◌, List, ℕ, true, false, ap, sym, subst, ◌∙◌, arith}
use Rattle.std.specs.Prelude.{Some}
use Rattle.std.specs.Vec.{with_items}
use Rattle.std.proofs.lemmas.List.{with_items_is}
use Rattle.channel_errors.specs.Errors.{IsSoundErrors, is_disturbed, is_off_in, counts_after_disturbed, after_finish}
use Rattle.bus_errors.specs.Inside.ErrorBus.{state_of, IsPaced}
use Rattle.bus_errors.proofs.Calls.{after_finish-off, after_finish-again}
use Rattle.bus_errors.proofs.Paced.{paced-finish}
use Rattle.bus_errors.proofs.error_bus.ErrorBusBus.finish.Goals as goal
use Rattle.bus_errors.proofs.error_bus.ErrorBusBus.finish.Goals.{then-is_off, else-is_off}

pub invariant_of-self : goal.invariant_of-self
invariant_of-self c =
    let s = state_of c.self.inside in
    let t = c.in_ok-carried.carried in
    let noted = c.note_disturbed.new.counts in
    let counts : List ℕ = (with_items c.self.inside.counts noted).items in
    let carried : s.plain.wire ≡ Some t = sym c.on_wire.ensures ∙ c.in_ok-carried.was in
    let planned : is_disturbed s ≡ true = sym c.has.ensures ∙ c.if-has.true in
    let same : counts ≡ noted = with_items_is c.self.inside.counts noted (omega arith) in
    let counted : counts ≡ counts_after_disturbed s.counts t.request.node =
    same ∙ c.note_disturbed.ensures ∙ ap (λ ls. counts_after_disturbed ls t.request.node) c.deref_mut.ensures.value in
    let off : is_off_in counts t.request.node ≡ true = ap (λ ls. is_off_in ls t.request.node) (sym c.deref.ensures.value) ∙ sym c.is_off.ensures ∙ c.if-is_off.true in
    subst IsPaced (sym (after_finish-off s c.args.now t carried c.if-carried-now.false c.wait_again.new.self counts c.drop_waiting.new.self planned c.wait_again.ensures.state counted off
    c.drop_waiting.ensures.state))
    (paced-finish s c.args.now c.self.invariant)

pub invariant_of-self-else-is_off : goal.invariant_of-self-else-is_off
invariant_of-self-else-is_off c =
    let s = state_of c.self.inside in
    let t = c.in_ok-carried.carried in
    let noted = c.note_disturbed.new.counts in
    let counts : List ℕ = (with_items c.self.inside.counts noted).items in
    let carried : s.plain.wire ≡ Some t = sym c.on_wire.ensures ∙ c.in_ok-carried.was in
    let planned : is_disturbed s ≡ true = sym c.has.ensures ∙ c.if-has.true in
    let same : counts ≡ noted = with_items_is c.self.inside.counts noted (omega arith) in
    let counted : counts ≡ counts_after_disturbed s.counts t.request.node =
    same ∙ c.note_disturbed.ensures ∙ ap (λ ls. counts_after_disturbed ls t.request.node) c.deref_mut.ensures.value in
    let on : is_off_in counts t.request.node ≡ false = ap (λ ls. is_off_in ls t.request.node) (sym c.deref.ensures.value) ∙ sym c.is_off.ensures ∙ c.if-is_off.false in
    subst IsPaced (sym (after_finish-again s c.args.now t carried c.if-carried-now.false c.wait_again.new.self counts planned c.wait_again.ensures.state counted on))
    (paced-finish s c.args.now c.self.invariant)

pub returns-then-has-clause-state : goal.returns-then-has-clause-state
returns-then-has-clause-state c =
    let s = state_of c.self.inside in
    let now = c.args.now in
    let t = c.in_ok-carried.carried in
    let noted = c.note_disturbed.new.counts in
    let counts : List ℕ = (with_items c.self.inside.counts noted).items in
    let carried : s.plain.wire ≡ Some t = sym c.on_wire.ensures ∙ c.in_ok-carried.was in
    let planned : is_disturbed s ≡ true = sym c.has.ensures ∙ c.if-has.true in
    let same : counts ≡ noted = with_items_is c.self.inside.counts noted (omega arith) in
    let counted : counts ≡ counts_after_disturbed s.counts t.request.node =
    same ∙ c.note_disturbed.ensures ∙ ap (λ ls. counts_after_disturbed ls t.request.node) c.deref_mut.ensures.value in
    let test : is_off_in counts t.request.node ≡ c.is_off.result = ap (λ ls. is_off_in ls t.request.node) (sym c.deref.ensures.value) ∙ sym c.is_off.ensures in
    let left : c.if-is_off.self ≡ after_finish s now =
    elim c.if-is_off.branch [
      | then-is_off w ↦
          w.self-is
          ∙ after_finish-off s now t carried c.if-carried-now.false c.wait_again.new.self counts w.drop_waiting.new.self planned c.wait_again.ensures.state counted (test ∙ w.if-is_off.true)
          w.drop_waiting.ensures.state
      | else-is_off w ↦
          w.self-is
          ∙ after_finish-again s now t carried c.if-carried-now.false c.wait_again.new.self counts planned c.wait_again.ensures.state counted (test ∙ w.if-is_off.false)
    ] in
    left ∙ ap (λ u. after_finish u now) c.self.view_is

pub returns-then-has-clause-sound : goal.returns-then-has-clause-sound
returns-then-has-clause-sound c =
    subst IsSoundErrors (ap (λ u. after_finish u c.args.now) c.self.view_is ∙ sym (returns-then-has-clause-state c))
    (paced-finish (state_of c.self.inside) c.args.now c.self.invariant).sound
