-- The runs are asked one behind the other.
use Rattle.std.proofs.Common.{get_or}
use Rattle.msg_select.proofs.RunLemmas.{next_run, run_of_part, first_in_part, none_in_part}
use Rattle.msg_select.proofs.selectors.first_holder.Goals as goal

pub holder_in_run-requires : goal.holder_in_run-requires
holder_in_run-requires c =
    let list = c.args.list.now in
    let next = next_run list c.loop-end.start _ c.loop-end.end-index c.args.ends.now c.loop-end-test.true c.loop-end.invariant.0 in
    run_of_part list c.loop-end.start (get_or c.args.ends.now c.loop-end.end-index 0) next.0 next.1 next.2

pub returns-in-Some-clause-some : goal.returns-in-Some-clause-some
returns-in-Some-clause-some c =
    let list = c.args.list.now in
    let next = next_run list c.loop-end.start _ c.loop-end.end-index c.args.ends.now c.loop-end-test.true c.loop-end.invariant.0 in
    first_in_part list c.args.key c.loop-end.start (get_or c.args.ends.now c.loop-end.end-index 0) c.in-Some.place next.0 next.1 c.loop-end.invariant.1 c.in-Some.ensures.some

pub loop-end-preserved : goal.loop-end-preserved
loop-end-preserved c =
    let list = c.args.list.now in
    let next = next_run list c.loop-end.start _ c.loop-end.end-index c.args.ends.now c.loop-end-test.true c.loop-end.invariant.0 in
    (next.3, none_in_part list c.args.key c.loop-end.start (get_or c.args.ends.now c.loop-end.end-index 0) next.0 next.1 c.loop-end.invariant.1 c.in_default.ensures.none)
