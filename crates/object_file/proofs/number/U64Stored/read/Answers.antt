-- The halves make the number.
use Rattle.object_file.specs.Number.{dword}
use Rattle.object_file.proofs.Pairs.{halves_read}
use Rattle.object_file.proofs.number.U64Stored.read.Goals as goal

pub returns-clause-spelled : goal.returns-clause-spelled
returns-clause-spelled c =
    let joined = c.join_u64.ensures in
    halves_read 4294967296 dword c.in_ok-low.low c.in_ok-low.high _ c.args.bytes.now c.in_ok-low.rest.now joined.low joined.number
    c.in_ok-low.ensures.spelled
