-- Its parts are as long.
use Rattle.object_file.proofs.Lengths.{function_long}
use Rattle.object_file.proofs.table.FunRecord.long_enough.Goals as goal

pub returns : goal.returns
returns c = function_long
