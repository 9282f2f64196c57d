-- Its halves are read.
use Rattle.object_file.specs.Number.{qword}
use Rattle.object_file.specs.Inside.Reading.{qword_at}
use Rattle.object_file.proofs.Pairs.{halves_complete}
use Rattle.object_file.proofs.number.U128Stored.complete.Goals as goal

pub returns : goal.returns
returns c = halves_complete 18446744073709551616 qword qword_at c.complete.ensures
