-- Spans are apart where they are when they stand by their least keys.
use Rattle.std.proofs.Common.{rules, ◌≤◌, List, sym, subst}
use Rattle.std.specs.Prelude.{All, AllPairs}
use Rattle.std.specs.List.Sorted.{IsNonDecreasingBy}
use Rattle.std.proofs.lemmas.List.Sorted.{All-permutation, IsNonDecreasingBy-from_sort_by_key}
use Rattle.bytecode.specs.Inside.Distinct.{AreSpansApart}
use Rattle.bytecode.specs.declared.distinct.Span.{Span}
use Rattle.bytecode.proofs.ListPairs.{AllPairs-permutation, AllPairs-permuted}
use Rattle.bytecode.proofs.SelectorRanks.{AreSpansApart-turned}
use Rattle.bytecode.proofs.distinct.spans_are_apart.Goals as goal

pub each_begins_behind-requires-clause-some : goal.each_begins_behind-requires-clause-some
each_begins_behind-requires-clause-some c =
    subst (λ (xs : List Span). All (λ s. s.low ≤ s.high) xs) (sym c.deref.ensures.value)
    (All-permutation (λ s. s.low ≤ s.high) c.args.spans.items _ c.sort_unstable_by_key.ensures.permutation c.requires)

pub each_begins_behind-requires-clause-rises : goal.each_begins_behind-requires-clause-rises
each_begins_behind-requires-clause-rises c =
    subst (λ (xs : List Span). IsNonDecreasingBy (λ s. s.low) xs) (sym c.deref.ensures.value)
    (IsNonDecreasingBy-from_sort_by_key (λ s. s.low) _ c.sort_unstable_by_key.ensures.sorted (λ a r q k. search rules))

pub returns : goal.returns
returns c = (
  λ t. AllPairs-permuted AreSpansApart AreSpansApart-turned c.args.spans.items _ c.sort_unstable_by_key.ensures.permutation
      (subst (λ (xs : List Span). AllPairs AreSpansApart xs) c.deref.ensures.value (c.each_begins_behind.ensures.0 t)),
  λ all. c.each_begins_behind.ensures.1 (subst (λ (xs : List Span). AllPairs AreSpansApart xs) (sym c.deref.ensures.value)
      (AllPairs-permutation AreSpansApart AreSpansApart-turned c.args.spans.items _ c.sort_unstable_by_key.ensures.permutation all)),
)
