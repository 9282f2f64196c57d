-- The requests of other nodes are brought into the order of a heap.
use Rattle.std.proofs.Common.{◌≡◌, List, subst, sym, ◌∙◌, arith, rules}
use Rattle.std.specs.List.{filter}
use Rattle.std.specs.List.Sorted.{IsPermutation}
use Rattle.std.specs.Vec.{with_items}
use Rattle.std.proofs.lemmas.List.{with_items_is}
use Rattle.std.proofs.lemmas.Fn.{filter_same}
use Rattle.can_bus.specs.declared.waiting.Waiting.{Waiting}
use Rattle.bus_heap.specs.Inside.Heap.{is_of_other}
use Rattle.bus_heap.proofs.heap.drop_node.Goals as goal

pub returns-clause-members : goal.returns-clause-members
returns-clause-members c =
    let rs = c.args.heap.now.items in
    let left = c.retain.new.self in
    let ordered = c.order_heap.new.heap in
    let kept : left.items ≡ filter (is_of_other c.args.node) rs =
    filter_same _ (is_of_other c.args.node) _ (λ r b f' k. search rules) rs left.items c.retain.ensures.filtered in
    let e : (with_items left ordered).items ≡ ordered = with_items_is left ordered (omega arith) in
    subst (IsPermutation (filter (is_of_other c.args.node) rs)) (sym e)
    (subst (λ (ls : List Waiting). IsPermutation ls ordered) (c.deref_mut.ensures.value ∙ kept) c.order_heap.ensures.same)
