-- The halves make the number.
use Rattle.object_file.specs.Number.{word}
use Rattle.object_file.proofs.Pairs.{halves_read}
use Rattle.object_file.proofs.number.U32Stored.read.Goals as goal

pub returns-clause-spelled : goal.returns-clause-spelled
returns-clause-spelled c =
    let joined = c.join_u32.ensures in
    halves_read 65536 word c.in_ok-low.low c.in_ok-low.high _ c.args.bytes.now c.in_ok-low.rest.now joined.low joined.number
    c.in_ok-low.ensures.spelled
