-- Where the next record is not there, so many are not.
use Rattle.std.proofs.Common.{rules, ◌∙◌, ap, arith}
use Rattle.object_file.specs.Inside.Reading.{items_at}
use Rattle.object_file.proofs.Pairs.{no_item}
use Rattle.object_file.proofs.list.read_records.Goals as goal

pub returns-in_err-record-clause-bad : goal.returns-in_err-record-clause-bad
returns-in_err-record-clause-bad g c bad =
    let known = c.loop.invariant in
    ap (items_at g.T.Stored.at c.args.count) known.spelled
    ∙ no_item g.T.Stored.spelling g.T.Stored.holds g.T.Stored.at c.complete.ensures c.args.count c.loop.records.items c.loop.rest.now
    known.holds (omega arith) (search rules)
