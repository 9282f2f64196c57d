-- Each event is read.
use Rattle.object_file.proofs.TableLemmas.{event_complete}
use Rattle.object_file.proofs.table.EventStored.complete.Goals as goal

pub returns : goal.returns
returns c = event_complete c.complete.ensures c.complete-2.ensures c.complete-3.ensures
