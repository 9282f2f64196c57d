-- One more record.
use Rattle.std.proofs.Common.{◌≡◌, ◌++◌, ◌∙◌, ap, append_assoc, arith, sym, take}
use Rattle.std.specs.Prelude.{flat_map}
use Rattle.object_file.proofs.Pairs.{take_more}
use Rattle.object_file.proofs.list.write_records.Goals as goal

pub loop-record-preserved : goal.loop-record-preserved
loop-record-preserved g c =
    let f = g.T.Stored.spelling in
    let front = c.args.into.now.items in
    let records = c.args.records.now in
    let i = c.loop-record.record-index in
    let one = c.record-item.result in
    let written : c.write.new.into.items ≡ c.loop-record.into.items ++ f one = c.in_ok-write.ensures in
    let before : c.loop-record.into.items ≡ front ++ flat_map f (take i records) = c.loop-record.invariant in
    written ∙ ap (λ l. l ++ f one) before ∙ append_assoc front (flat_map f (take i records)) (f one)
    ∙ ap (λ l. front ++ l) (ap (λ x. flat_map f (take i records) ++ f x) c.record-item.is ∙ sym (take_more f records i one (omega arith)))
