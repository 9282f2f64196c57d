-- Each argument is read.
use Rattle.object_file.proofs.TableLemmas.{argument_complete}
use Rattle.object_file.proofs.table.ArgKindStored.complete.Goals as goal

pub returns : goal.returns
returns c = argument_complete c.complete.ensures c.complete-2.ensures c.complete-3.ensures
