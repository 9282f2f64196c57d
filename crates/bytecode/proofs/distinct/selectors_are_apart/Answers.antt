-- Selectors whose spans are apart in each rank are apart.
use Rattle.std.proofs.Common.{arith, ◌≡◌, ◌≤◌, ◌∙◌, List, true, false, refl, sym, subst}
use Rattle.std.specs.Prelude.{All, AllPairs}
use borrow.Author.Count.{below_more}
use Rattle.run_effects.specs.Effect.{selectors_of}
use Rattle.bytecode.specs.Tables.{all_selectors}
use Rattle.bytecode.specs.Inside.Distinct.{AreApartIn, AreSpansApart}
use Rattle.bytecode.specs.declared.distinct.Span.{Span}
use Rattle.bytecode.proofs.GivenLemmas.{All-flat_map}
use Rattle.bytecode.proofs.SelectorRanks.{apart_in_rank, apart_in_ranks, apart_of_spans, some_keys, spans_of_apart}
use Rattle.bytecode.proofs.distinct.selectors_are_apart.Goals as goal

pub spans_are_apart-requires : goal.spans_are_apart-requires
spans_are_apart-requires c =
    subst (λ (xs : List Span). All (λ s. s.low ≤ s.high) xs) (sym c.in_ok-spans_of.ensures) (some_keys c.loop-rank.rank (all_selectors c.args.handlers.now))

pub returns-then-not-spans_are_apart : goal.returns-then-not-spans_are_apart
returns-then-not-spans_are_apart c = (
  λ t. absurd (let e : false ≡ true = t in cc),
  λ all. absurd (let spans = spans_of_apart c.loop-rank.rank (all_selectors c.args.handlers.now) (apart_in_rank c.loop-rank.rank (all_selectors c.args.handlers.now) all) in
      let t : false ≡ true = sym c.if-not-spans_are_apart.true ∙ c.spans_are_apart.ensures.1 (subst (λ (xs : List Span). AllPairs AreSpansApart xs) (sym c.in_ok-spans_of.ensures) spans) in cc),
)

pub loop-rank-preserved : goal.loop-rank-preserved
loop-rank-preserved c =
    below_more (λ rank. AllPairs (AreApartIn rank) (all_selectors c.args.handlers.now)) c.loop-rank.rank c.loop-rank.invariant
    (apart_of_spans c.loop-rank.rank (all_selectors c.args.handlers.now)
    (subst (λ (xs : List Span). AllPairs AreSpansApart xs) c.in_ok-spans_of.ensures (c.spans_are_apart.ensures.0 c.if-not-spans_are_apart.false)))

pub returns : goal.returns
returns c =
    let apart = c.loop-rank.invariant in
    let known = (All-flat_map (λ handler. selectors_of handler.event) (λ selector. selector.rank ≤ 2) c.args.handlers.now).0 c.requires in
    (λ _. apart_in_ranks (all_selectors c.args.handlers.now) known (apart 0 (omega arith)) (apart 1 (omega arith)) (apart 2 (omega arith)), λ _. refl)
