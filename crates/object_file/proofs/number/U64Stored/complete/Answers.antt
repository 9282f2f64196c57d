-- Its halves are read.
use Rattle.object_file.specs.Number.{dword}
use Rattle.object_file.specs.Inside.Reading.{dword_at}
use Rattle.object_file.proofs.Pairs.{halves_complete}
use Rattle.object_file.proofs.number.U64Stored.complete.Goals as goal

pub returns : goal.returns
returns c = halves_complete 4294967296 dword dword_at c.complete.ensures
