-- One more row.
use Rattle.std.proofs.Common.{◌≡◌, ◌+◌, List, ℕ, subst, sym, take}
use Rattle.std.specs.Prelude.{map}
use Rattle.std.specs.Global.{Vec}
use Rattle.check_names.specs.Function.{functions_in}
use Rattle.check_calls.specs.Callees.{callees, calls_of_all, functions_at}
use Rattle.check_calls.specs.Graph.{rows_of}
use Rattle.check_calls.specs.Inside.Added.{AreAdded}
use Rattle.check_calls.proofs.RowLemmas.{rows_more}
use Rattle.check_calls.proofs.rows.callees_of_all.Goals as goal

pub loop-function-preserved : goal.loop-function-preserved
loop-function-preserved c =
    let i = c.loop-function.function-index in
    let fs = c.functions-function-items.result.now in
    subst
    (λ (rows : List (Vec ℕ)). map (functions_at c.args.names.now) (rows_of rows)
    ≡ map (λ g. callees c.args.names.now (calls_of_all g.body)) (functions_in (take (i + 1) fs)))
    (sym c.in_ok-push.ensures.items)
    (rows_more c.args.names.now c.loop-function.rows.items c.add_calls_of_all.new.into fs i c.function-item.result
    c.loop-function-test.true c.function-item.is
    (subst (λ (l : List ℕ). AreAdded c.args.names.now c.add_calls_of_all.new.into.items l (calls_of_all c.function-item.result.body.now))
    c.new-row.ensures.items c.in_ok-add_calls_of_all.ensures)
    c.loop-function.invariant)
