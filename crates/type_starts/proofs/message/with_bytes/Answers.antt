-- The bytes are put, or put nowhere.
use Rattle.type_starts.proofs.MessageLemmas.{bytes_held_at}
use Rattle.type_starts.proofs.StartLemmas.{passed}
use Rattle.type_starts.proofs.message.with_bytes.Goals as goal

pub returns-then-from-lt8 : goal.returns-then-from-lt8
returns-then-from-lt8 c = λ m held.
    bytes_held_at c.args.kind c.args.from _ c.args.n _ c.size.result c.residue.result c.args.message m c.put_bytes.new.payload
    (passed c.args.from c.ranges.from) (passed c.args.n c.ranges.n) c.if-from-ge0.true held c.has_eight_bytes.ensures c.has_eight_bytes-then-from-lt8.ensures
    c.size.ensures c.residue.ensures c.put_bytes.ensures
