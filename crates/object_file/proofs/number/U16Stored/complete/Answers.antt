-- Its halves are read.
use Rattle.object_file.specs.Number.{byte}
use Rattle.object_file.specs.Inside.Reading.{byte_at}
use Rattle.object_file.proofs.Pairs.{halves_complete}
use Rattle.object_file.proofs.number.U16Stored.complete.Goals as goal

pub returns : goal.returns
returns c = halves_complete 256 byte byte_at c.complete.ensures
