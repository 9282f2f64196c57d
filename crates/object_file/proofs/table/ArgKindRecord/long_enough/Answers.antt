-- Its parts are as long.
use Rattle.object_file.proofs.Lengths.{argument_long}
use Rattle.object_file.proofs.table.ArgKindRecord.long_enough.Goals as goal

pub returns : goal.returns
returns c = argument_long
