-- Its parts are as long.
use Rattle.object_file.proofs.Lengths.{handler_long}
use Rattle.object_file.proofs.table.HandlerRecord.long_enough.Goals as goal

pub returns : goal.returns
returns c = handler_long
