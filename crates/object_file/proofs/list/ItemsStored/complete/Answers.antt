-- Its number and its records are read.
use Rattle.object_file.proofs.Pairs.{list_complete}
use Rattle.object_file.proofs.list.ItemsStored.complete.Goals as goal

pub returns : goal.returns
returns g c = list_complete g.T.Stored.spelling g.T.Stored.holds g.T.Stored.at c.complete-2.ensures c.complete.ensures
