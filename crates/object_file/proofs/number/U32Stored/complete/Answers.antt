-- Its halves are read.
use Rattle.object_file.specs.Number.{word}
use Rattle.object_file.specs.Inside.Reading.{word_at}
use Rattle.object_file.proofs.Pairs.{halves_complete}
use Rattle.object_file.proofs.number.U32Stored.complete.Goals as goal

pub returns : goal.returns
returns c = halves_complete 65536 word word_at c.complete.ensures
