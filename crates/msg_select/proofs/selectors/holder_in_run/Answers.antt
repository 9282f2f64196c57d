-- The last selector that begins at the key or before is the only one that may hold it.
use Rattle.std.proofs.Common.{rules, IfNone, sym, subst}
use Rattle.std.proofs.lemmas.List.Sorted.{IsPartitionPoint-from_clause}
use Rattle.msg_select.specs.Selection.{NoneHolds}
use Rattle.msg_select.proofs.RunLemmas.{begins, run_is_parted, held_or_none, none_begins}
use Rattle.msg_select.proofs.selectors.holder_in_run.Goals as goal

pub returns-in_err-place-clause-none : goal.returns-in_err-place-clause-none
returns-in_err-place-clause-none c =
    let run = c.args.run.now in
    let parts = IsPartitionPoint-from_clause (begins c.args.key) _ _ c.partition_point.ensures.partitioned (run_is_parted run c.args.key c.requires) (λ a r q k. search rules) in
    subst (λ o. IfNone o (NoneHolds run c.args.key)) (sym c.from_residual.ensures) (none_begins run c.args.key c.partition_point.result parts c.in_err-place.ensures)

pub returns-clause-some : goal.returns-clause-some
returns-clause-some c =
    let run = c.args.run.now in
    let parts = IsPartitionPoint-from_clause (begins c.args.key) _ _ c.partition_point.ensures.partitioned (run_is_parted run c.args.key c.requires) (λ a r q k. search rules) in
    (held_or_none run c.args.key c.partition_point.result c.in_ok-place.place _ c.requires c.partition_point.ensures.bound parts c.in_ok-place.ensures.0 c.in_ok-place.ensures.1 c.then_some.result c.then_some.ensures).0

pub returns-clause-none : goal.returns-clause-none
returns-clause-none c =
    let run = c.args.run.now in
    let parts = IsPartitionPoint-from_clause (begins c.args.key) _ _ c.partition_point.ensures.partitioned (run_is_parted run c.args.key c.requires) (λ a r q k. search rules) in
    (held_or_none run c.args.key c.partition_point.result c.in_ok-place.place _ c.requires c.partition_point.ensures.bound parts c.in_ok-place.ensures.0 c.in_ok-place.ensures.1 c.then_some.result c.then_some.ensures).1
