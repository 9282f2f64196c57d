-- Its parts are as long.
use Rattle.object_file.proofs.Lengths.{start_long}
use Rattle.object_file.proofs.table.Tuple2U32I128Record.long_enough.Goals as goal

pub returns : goal.returns
returns c = start_long
