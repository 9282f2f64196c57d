-- The request stands last and rises.
use Rattle.std.proofs.Common.{◌≡◌, List, [], ◌∷◌, ◌++◌, cond, ap, subst, sym, ◌∙◌, arith}
use Rattle.std.specs.Result.{is_ok}
use Rattle.std.specs.List.Sorted.{IsPermutation}
use Rattle.std.specs.Vec.{with_items}
use Rattle.std.proofs.lemmas.List.{with_items_is}
use Rattle.std.proofs.lemmas.List.Sorted.{IsPermutation-sym, IsPermutation-trans, IsPermutation-to_front}
use Rattle.can_bus.specs.declared.waiting.Waiting.{Waiting}
use Rattle.bus_heap.proofs.heap.add_within.Goals as goal

pub returns-clause-members : goal.returns-clause-members
returns-clause-members c =
    let rs = c.args.heap.now.items in
    let r = c.args.request in
    let pushed = c.push.new.self in
    let risen = c.sift_up.new.heap in
    let e : (with_items pushed risen).items ≡ risen = with_items_is pushed risen (omega arith) in
    let stood : pushed.items ≡ rs ++ r ∷ [] =
    c.push.ensures.items ∙ ap (λ o. cond (is_ok o) (rs ++ r ∷ []) rs) c.unwrap.ensures in
    let rose : IsPermutation (rs ++ r ∷ []) risen =
    subst (λ (ls : List Waiting). IsPermutation ls risen) (c.deref_mut.ensures.value ∙ stood) c.sift_up.ensures.same in
    subst (λ (ls : List Waiting). IsPermutation (r ∷ rs) ls) (sym e)
    (IsPermutation-trans (r ∷ rs) (rs ++ r ∷ []) risen (IsPermutation-sym (rs ++ r ∷ []) (r ∷ rs) (IsPermutation-to_front rs r)) rose)
