-- The first range that does not end too early.
use Rattle.std.proofs.Common.{rules, ◌≡◌, arith, ◌∙◌, length, nat_lt, false, refl, sym}
use Rattle.std.proofs.lemmas.Bool.Decides.{nat_tests}
use Rattle.std.proofs.lemmas.List.Sorted.{IsPartitionPoint-from_clause}
use Rattle.check_names.proofs.CoveredLemmas.{ends_before, none_behind, parted, searched}
use Rattle.check_names.proofs.covered.one_meets.Goals as goal

pub returns-then-place-rising : goal.returns-then-place-rising
returns-then-place-rising c = λ rises.
    let ranges = c.args.rising.now in
    let behind = IsPartitionPoint-from_clause (ends_before c.args.low) ranges _ c.partition_point-place.ensures.partitioned (parted ranges c.args.low rises) (λ a r q k. search rules) in
    searched ranges c.args.low c.args.high c.partition_point-place.result _ _ rises behind c.if-place-rising.true refl

pub returns-else-place-rising : goal.returns-else-place-rising
returns-else-place-rising c = λ rises.
    let ranges = c.args.rising.now in
    let behind = IsPartitionPoint-from_clause (ends_before c.args.low) ranges _ c.partition_point-place.ensures.partitioned (parted ranges c.args.low rises) (λ a r q k. search rules) in
    let past : nat_lt c.partition_point-place.result (length ranges) ≡ false = grind (arith, nat_tests, c.if-place-rising.false) in
    past ∙ sym (none_behind ranges c.args.low c.args.high c.partition_point-place.result behind c.if-place-rising.false)
