-- A request enters the list behind its node's others.
use Rattle.std.proofs.Common.{◌≡◌, ℕ, ◌+◌, List, map, refl, sym, ap, subst, ◌∙◌, arith}
use Rattle.std.specs.List.{All}
use Rattle.std.specs.Option.{option_map}
use Rattle.std.specs.Ordering.{nat_cmp}
use Rattle.std.specs.Vec.{with_items}
use Rattle.std.proofs.lemmas.List.{with_items_is}
use Rattle.std.specs.FinMap.{from_entries}
use Rattle.can_frame.specs.Frame.{FrameFields}
use Rattle.can_bus.specs.declared.waiting.Waiting.{Waiting}
use Rattle.can_bus.specs.Waiting.{requests_of}
use Rattle.can_bus.specs.Bus.{BusState, next_number, after_request}
use Rattle.arbitration.specs.Inside.PlainBus.{state_of}
use Rattle.arbitration.specs.Inside.Places.{InOrder, place_behind}
use Rattle.can_bus.specs.Ranks.{IsBelowNext, with_rank_in, transmission_with_rank_in}
use Rattle.arbitration.proofs.ListEdits.{in_order-insert}
use Rattle.arbitration.proofs.RankLemmas.{in_order-ranks}
use Rattle.arbitration.proofs.RequestLemmas.{new_request, list_with_request, after_request-early, after_request-last, below-early, below-last, IsLast-request, place_behind-le, number_found, list_found, next_found-early, next_found-last}
use Rattle.arbitration.proofs.plain_bus.PlainBusBus.request.Goals as goal

-- the list with the request is in order
in_order : (s : BusState) (rs after : List Waiting) (node n : ℕ) (f : FrameFields) → InOrder rs → All (IsBelowNext s) rs → n ≡ next_number s node → after ≡ list_with_request rs node n f → InOrder after
in_order s rs after node n f order below is e = subst InOrder (sym e) (in_order-insert rs (new_request node n f) (IsLast-request s rs node n f below is) order)

pub add-requires : goal.add-requires
add-requires c =
    let rs = c.self.inside.waiting.items in
    let at = ap (λ us. place_behind us c.args.node) c.deref.ensures.value in
    let within = place_behind-le rs c.args.node in
    omega arith

pub set_ranks-requires : goal.set_ranks-requires
set_ranks-requires c =
    let b = c.self.inside in
    let n = c.unwrap_or-number.result in
    let is = number_found b.next c.args.node n c.copied.result _ c.unwrap_or-number.ensures c.copied.ensures c.get.ensures.value in
    let list = list_found b.waiting.items c.deref.result.now c.add.new.waiting.items c.args.node n c.place_behind-place.result c.args.f.now c.deref.ensures.value c.place_behind-place.ensures c.in_ok-add.ensures.waiting in
    in_order (state_of b) b.waiting.items _ c.args.node n c.args.f.now c.self.invariant.in_order c.self.invariant.below_next is (c.deref_mut.ensures.value ∙ list)

pub invariant_of-self-else-number : goal.invariant_of-self-else-number
invariant_of-self-else-number c =
    let b = c.self.inside in
    let rs = b.waiting.items in
    let s = state_of b in
    let node = c.args.node in
    let n = c.unwrap_or-number.result in
    let f = c.args.f.now in
    let is = number_found b.next node n c.copied.result _ c.unwrap_or-number.ensures c.copied.ensures c.get.ensures.value in
    let list = list_found rs c.deref.result.now c.add.new.waiting.items node n c.place_behind-place.result f c.deref.ensures.value c.place_behind-place.ensures c.in_ok-add.ensures.waiting in
    let next = next_found-early c.deref-2.result.now b.wire b.next c.add.new.next node n c.following_number-following.result c.if-number.false c.following_number-following.ensures c.in_ok-add.ensures.next in
    let Below : List Waiting → Type 0 = All (IsBelowNext (record s { next = from_entries {R = nat_cmp} c.add.new.next.entries })) in
    record {
      takes_time = c.self.invariant.takes_time;
      in_order = in_order s rs c.add.new.waiting.items node n f c.self.invariant.in_order c.self.invariant.below_next is list;
      below_next = subst Below (sym list) (below-early s rs node n (n + 1) f _ c.self.invariant.below_next is (omega arith) next);
    }

pub returns-else-number-clause-ok : goal.returns-else-number-clause-ok
returns-else-number-clause-ok c =
    let b = c.self.inside in
    let rs = b.waiting.items in
    let s = state_of b in
    let node = c.args.node in
    let n = c.unwrap_or-number.result in
    let f = c.args.f.now in
    let is = number_found b.next node n c.copied.result _ c.unwrap_or-number.ensures c.copied.ensures c.get.ensures.value in
    let list = list_found rs c.deref.result.now c.add.new.waiting.items node n c.place_behind-place.result f c.deref.ensures.value c.place_behind-place.ensures c.in_ok-add.ensures.waiting in
    let next = next_found-early c.deref-2.result.now b.wire b.next c.add.new.next node n c.following_number-following.result c.if-number.false c.following_number-following.ensures c.in_ok-add.ensures.next in
    ap (λ us. record s { waiting = requests_of us; next = from_entries c.add.new.next.entries }) list
    ∙ after_request-early s rs node n f _ refl c.self.invariant.below_next is c.if-number.false next
    ∙ ap (λ t. after_request t node f) c.self.view_is

pub invariant_of-self-then-number : goal.invariant_of-self-then-number
invariant_of-self-then-number c =
    let b = c.self.inside in
    let rs = b.waiting.items in
    let s = state_of b in
    let node = c.args.node in
    let n = c.unwrap_or-number.result in
    let f = c.args.f.now in
    let is = number_found b.next node n c.copied.result _ c.unwrap_or-number.ensures c.copied.ensures c.get.ensures.value in
    let list = list_found rs c.deref.result.now c.add.new.waiting.items node n c.place_behind-place.result f c.deref.ensures.value c.place_behind-place.ensures c.in_ok-add.ensures.waiting in
    let ranked : (with_items c.add.new.waiting c.set_ranks.new.waiting).items ≡ map (with_rank_in (list_with_request rs node n f) b.wire node) (list_with_request rs node n f) =
    with_items_is c.add.new.waiting c.set_ranks.new.waiting (omega arith)
    ∙ c.set_ranks.ensures
    ∙ ap (λ us. map (with_rank_in us b.wire node) us) (c.deref_mut.ensures.value ∙ list) in
    let next = next_found-last rs c.deref-2.result.now b.wire b.next c.add.new.next node n c.following_number-following.result c.deref-2.ensures.value c.if-number.true c.following_number-following.ensures c.in_ok-add.ensures.next in
    let Below : List Waiting → Type 0 = All (IsBelowNext (record s { next = from_entries {R = nat_cmp} c.add.new.next.entries })) in
    record {
      takes_time = c.self.invariant.takes_time;
      in_order = subst InOrder (sym ranked) (in_order-ranks (list_with_request rs node n f) b.wire node (in_order s rs (list_with_request rs node n f) node n f c.self.invariant.in_order c.self.invariant.below_next is refl));
      below_next = subst Below (sym ranked) (below-last s rs b.wire node n f _ c.self.invariant.below_next is next);
    }

pub returns-then-number-clause-ok : goal.returns-then-number-clause-ok
returns-then-number-clause-ok c =
    let b = c.self.inside in
    let rs = b.waiting.items in
    let s = state_of b in
    let node = c.args.node in
    let n = c.unwrap_or-number.result in
    let f = c.args.f.now in
    let is = number_found b.next node n c.copied.result _ c.unwrap_or-number.ensures c.copied.ensures c.get.ensures.value in
    let list = list_found rs c.deref.result.now c.add.new.waiting.items node n c.place_behind-place.result f c.deref.ensures.value c.place_behind-place.ensures c.in_ok-add.ensures.waiting in
    let ranked : (with_items c.add.new.waiting c.set_ranks.new.waiting).items ≡ map (with_rank_in (list_with_request rs node n f) b.wire node) (list_with_request rs node n f) =
    with_items_is c.add.new.waiting c.set_ranks.new.waiting (omega arith)
    ∙ c.set_ranks.ensures
    ∙ ap (λ us. map (with_rank_in us b.wire node) us) (c.deref_mut.ensures.value ∙ list) in
    let carried : c.transmission_with_rank-wire.result ≡ option_map (transmission_with_rank_in (list_with_request rs node n f) b.wire node) b.wire =
    c.transmission_with_rank-wire.ensures.value ∙ ap (λ us. option_map (transmission_with_rank_in us b.wire node) b.wire) (c.deref-then-number.ensures.value ∙ list) in
    let next = next_found-last rs c.deref-2.result.now b.wire b.next c.add.new.next node n c.following_number-following.result c.deref-2.ensures.value c.if-number.true c.following_number-following.ensures c.in_ok-add.ensures.next in
    (λ i. record s { waiting = requests_of (ranked i); wire = carried i; next = from_entries c.add.new.next.entries })
    ∙ after_request-last s rs node n f _ refl c.self.invariant.in_order c.self.invariant.below_next is c.if-number.true c.transmission_with_rank-wire.ensures.in_range next
    ∙ ap (λ t. after_request t node f) c.self.view_is
