-- Its length and its bytes are read.
use Rattle.object_file.proofs.TableLemmas.{text_complete}
use Rattle.object_file.proofs.list.TextStored.complete.Goals as goal

pub returns : goal.returns
returns c = text_complete c.complete.ensures
