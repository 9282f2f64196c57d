-- A selector goes on with the run, or begins the next one.
use Rattle.std.proofs.Common.{rules, ℕ, ◌+◌, List, length, arith, refl, sym, subst}
use Rattle.msg_select.specs.Inside.Selectors.{AreRuns}
use Rattle.msg_select.proofs.RunLemmas.{AreRunsSoFar, run_goes_on, run_ends, all_runs}
use Rattle.msg_select.proofs.selectors.ends_of_runs.Goals as goal
use Rattle.msg_select.proofs.selectors.ends_of_runs.Goals.{then-not-is_behind+in_ok-push, else-not-is_behind}

pub loop-place-preserved : goal.loop-place-preserved
loop-place-preserved c =
    let list = c.args.list.now in
    let ends = c.loop-place.ends.items in
    let place = c.loop-place.place in
    elim c.if-not-is_behind.branch [
      | then-not-is_behind+in_ok-push w ↦
          subst (λ (es : List ℕ). AreRunsSoFar list es (place + 1)) (search rules) (run_ends list ends place c.loop-place-test.true c.loop-place.invariant)
      | else-not-is_behind w ↦
          subst (λ (es : List ℕ). AreRunsSoFar list es (place + 1)) (search rules) (run_goes_on list ends place _ c.loop-place-test.true (w.if-not-is_behind.ensures.0 refl) c.loop-place.invariant)
    ]

pub returns : goal.returns
returns c =
    let list = c.args.list.now in
    subst (AreRuns list 0 (length list)) (sym c.in_ok-push-2.ensures.items) (all_runs list c.loop-place.ends.items c.loop-place.place (omega (arith, c.loop-place-test.false)) c.loop-place.invariant)
