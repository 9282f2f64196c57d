-- A stable sort by the moment.
use Rattle.std.proofs.Common.{rules}
use Rattle.std.proofs.lemmas.List.Sorted.{answers_always}
use Rattle.scenario.proofs.draft.order_by_moment.Goals as goal

pub returns : goal.returns
returns c =
    record {
      same = c.sort_by_key.ensures.permutation;
      by_moment = c.in_ok-sort_by_key.ensures.sorted (λ key. key.at) (answers_always _ _ _ (λ f a r g h. search rules));
      in_file_order = c.sort_by_key.ensures.stable (λ key. key.at) (answers_always _ _ _ (λ f a r g h. search rules));
    }
