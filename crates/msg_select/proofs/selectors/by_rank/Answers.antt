-- A sort by the rank and more.
use Rattle.std.proofs.Common.{rules, List, subst}
use Rattle.std.proofs.lemmas.List.Sorted.{answers_always}
use Rattle.std.specs.List.Sorted.{IsPermutation}
use Rattle.msg_select.specs.declared.selector.MessageSelector.{MessageSelector}
use Rattle.msg_select.proofs.ChoiceLemmas.{place_key, ranks_ascend}
use Rattle.msg_select.proofs.selectors.by_rank.Goals as goal

pub returns : goal.returns
returns c =
    let same = c.sort_unstable_by_key.ensures.permutation in
    let sorted = c.sort_unstable_by_key.ensures.sorted place_key (answers_always _ _ _ (λ f a r g h. search rules)) in
    record {
      same = subst (λ (xs : List MessageSelector). IsPermutation xs c.sort_unstable_by_key.new.self.items) c.in_ok-ordered.ensures.items same;
      by_rank = ranks_ascend _ sorted;
    }
