-- Where a count says more than the bytes that are left can hold, there is no list.
use Rattle.std.proofs.Common.{◌<◌, ◌*◌, ◌∙◌, length, subst}
use Rattle.object_file.proofs.Lengths.{no_list}
use Rattle.object_file.proofs.list.ItemsStored.read.Goals as goal

pub returns-then-count-from-clause-bad : goal.returns-then-count-from-clause-bad
returns-then-count-from-clause-bad g c bad =
    let count = c.in_ok-count.count in
    let rest = c.in_ok-count.rest.now in
    no_list g.T.Record.LEAST g.T.Stored.at c.long_enough.ensures c.complete.ensures c.args.bytes.now rest count c.in_ok-count.ensures.spelled
    (subst (λ least. length rest < count * least) (c.from.ensures ∙ c.LEAST.ensures) c.if-count-from.true)
