-- The ranks and the marks are of these rows.
use Rattle.std.proofs.Common.{ℕ, List, subst}
use Rattle.check_calls.specs.Graph.{AreRanked, AreReached, AreReaching, rows_of}
use Rattle.check_calls.proofs.components.Components.build.Goals as goal

pub returns : goal.returns
returns c =
    let rows = rows_of c.args.rows.now in
    record {
      ranked = λ is. subst (λ (l : List ℕ). AreRanked l rows) c.as_slice-2.ensures.value (c.are_ranked-is_ranked.ensures is);
      reached =
          subst (λ (l : List ℕ). AreReached rows l c.in_ok-reached.reached.items) c.as_slice-3.ensures.value c.in_ok-reached.ensures;
      reaching =
          subst (λ (l : List ℕ). AreReaching rows l c.in_ok-reaching.reaching.items) c.as_slice-4.ensures.value
          c.in_ok-reaching.ensures;
    }
