-- Its parts are as long.
use Rattle.object_file.proofs.Lengths.{kind_long}
use Rattle.object_file.proofs.table.KindRecord.long_enough.Goals as goal

pub returns : goal.returns
returns c = kind_long
